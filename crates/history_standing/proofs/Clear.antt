-- What is left in an adapter that goes, and below it: nothing.
use Rattle.std.specs.Prelude.{◌≡◌, ℕ, Bool, true, false, not, ◌&&◌, List, refl}
use Rattle.std.specs.List.{list_any}
use Rattle.std.proofs.Common.{sym, ◌∙◌}
use Rattle.std.proofs.lemmas.Bool.{and_parts, true≢false}
use Rattle.poa_base.specs.declared.Config.{Config}
use Rattle.history_standing.specs.Nodes.{stands_under}
use Rattle.history_standing.specs.Trees.{In}
use Rattle.history_standing.specs.declared.activation.Activation.{Activation}
use Rattle.history_standing.specs.declared.flight.Flight.{Flight}
use Rattle.history_standing.specs.Ends.{is_clear, is_over}
use Rattle.history_standing.specs.Standings.{Standing}
use Rattle.history_standing.proofs.Tests.{none_by, not_true}

pub clear_parts : (c : Config) (s : Standing) (p : List (List ℕ)) → is_clear c s p ≡ true
    → (list_any (λ f. stands_under s.nodes p f.adapter) s.flights ≡ false)
    × (list_any (λ a. not (is_over c a) && stands_under s.nodes p a.adapter) s.activations ≡ false)
clear_parts c s p clear =
    let parts =
    and_parts (not (list_any (λ f. stands_under s.nodes p f.adapter) s.flights))
    (not (list_any (λ a. not (is_over c a) && stands_under s.nodes p a.adapter) s.activations)) clear in (not_true _ parts.0, not_true _ parts.1)

over_by : (over under : Bool) → (not over && under) ≡ false → under ≡ true → over ≡ true
over_by true under none is = refl
over_by false under none is = absurd (true≢false (sym is ∙ none))

pub clear_idle : (c : Config) (s : Standing) (p : List (List ℕ)) (f : Flight) → is_clear c s p ≡ true → In f s.flights
    → stands_under s.nodes p f.adapter ≡ false
clear_idle c s p f clear there = none_by (λ g. stands_under s.nodes p g.adapter) f s.flights there (clear_parts c s p clear).0

pub clear_over : (c : Config) (s : Standing) (p : List (List ℕ)) (a : Activation) → is_clear c s p ≡ true → In a s.activations
    → stands_under s.nodes p a.adapter ≡ true → is_over c a ≡ true
clear_over c s p a clear there under =
    over_by (is_over c a) (stands_under s.nodes p a.adapter)
    (none_by (λ b. not (is_over c b) && stands_under s.nodes p b.adapter) a s.activations there (clear_parts c s p clear).1) under
