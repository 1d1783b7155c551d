-- What clap finds in words that are arguments, where the command has one place.
use Rattle.std.proofs.Common.{◌≡◌, ◌∙◌, Bool, true, false, List, [], ◌∷◌, Option, Some, None, is_some, inl, inr, refl, sym, ap, subst, codes}
use Rattle.clap.specs.Words.{App, Row, Text, fault_of, first_of, first_value, found_of, is_simple_and_free, matches_of}
use Rattle.clap.specs.declared.parser.matches.ArgMatches.{ArgMatches}
use Rattle.clap.proofs.WalkLemmas.{first_value-rows}
use Rattle.clap.specs.Simple.{built}
use Rattle.clap.specs.Walk.{Held, nothing_held}
use Rattle.clap.proofs.OnLiterals.{clap_on_literals}
use Rattle.command_words.specs.Apps.{AreArguments, Refuses, Takes, of_one}
use Rattle.command_words.specs.Words.{arguments_of, single, with_argument}
use Rattle.command_words.proofs.Standing.{more_follow, next_word}
use Rattle.command_words.proofs.Walking.{argument_refused, argument_taken, end_of_options, goes_on, none_told, standing, told, told_from}

-- the first argument, not yet among the matches
abbrev pub first_held : Text → Held
first_held a = record nothing_held { pending = Some (codes "first", a ∷ []) }

abbrev read_one : List Row → Option Text
read_one rows = first_of (codes "first") rows

one_too_many : (r : Bool) (a : Text) (w : Option Text) (more : Option (List Text)) → single r (with_argument (Some a) (with_argument w more)) ≡ None
one_too_many true a None more = refl
one_too_many true a (Some w) None = refl
one_too_many true a (Some w) (Some ws) = refl
one_too_many false a None more = refl
one_too_many false a (Some w) None = refl
one_too_many false a (Some w) (Some ws) = refl

-- the only place is taken
one_taken : (name : Text) (r marked : Bool) (a : Text) (ws : List Text) → is_some (arguments_of marked ws) ≡ true
    → told_from (built (of_one name r)) read_one (standing (first_held a) 2 marked) ws ≡ single r (with_argument (Some a) (arguments_of marked ws))
unfolding clap_on_literals
one_taken name true true a [] h = refl
one_taken name true false a [] h = refl
one_taken name false true a [] h = refl
one_taken name false false a [] h = refl
one_taken name r true a (w ∷ ws) h = sym (one_too_many r a _ (arguments_of true ws))
one_taken name r false a (w ∷ ws) h = elim (next_word w ws h) [
  | inl e ↦ end_of_options (built (of_one name r)) read_one (first_held a) 2 w ws e.is
      ∙ (one_taken name r true a ws e.more ∙ ap (λ more. single r (with_argument (Some a) more)) (sym e.all))
  | inr p ↦ argument_refused (built (of_one name r)) read_one (first_held a) 2 w ws _ _ p refl
      ∙ sym (ap (λ more. single r (with_argument (Some a) more)) p.all ∙ one_too_many r a (Some w) (arguments_of false ws))
]

one_from_start : (name : Text) (r marked : Bool) (ws : List Text) → is_some (arguments_of marked ws) ≡ true
    → told_from (built (of_one name r)) read_one (standing nothing_held 1 marked) ws ≡ single r (arguments_of marked ws)
unfolding clap_on_literals
one_from_start name true true [] h = refl
one_from_start name true false [] h = refl
one_from_start name false true [] h = refl
one_from_start name false false [] h = refl
one_from_start name r true ([] ∷ ws) h = cc
one_from_start name r true ((c ∷ cs) ∷ ws) h =
    goes_on (built (of_one name r)) read_one (standing nothing_held 1 true) (standing (first_held (c ∷ cs)) 2 true) (c ∷ cs) ws refl refl
    ∙ one_taken name r true (c ∷ cs) ws (more_follow (c ∷ cs) (arguments_of true ws) h)
one_from_start name r false (w ∷ ws) h = elim (next_word w ws h) [
  | inl e ↦ end_of_options (built (of_one name r)) read_one nothing_held 1 w ws e.is
      ∙ (one_from_start name r true ws e.more ∙ ap (single r) (sym e.all))
  | inr p ↦ argument_taken (built (of_one name r)) read_one nothing_held 1 (standing (first_held w) 2 false) w ws p refl refl
      ∙ (one_taken name r false w ws p.more ∙ ap (single r) (sym p.all))
]

agrees : (name : Text) (r : Bool) (ws : List Text) → AreArguments ws
    → told read_one (fault_of (of_one name r) ws) (matches_of (of_one name r) ws) ≡ single r (arguments_of false ws)
agrees name r ws h = one_from_start name r false ws h

pub one_taken_by : (app : App) (name : Text) (r : Bool) (ws : List Text) (m : ArgMatches) → app ≡ of_one name r
    → (is_simple_and_free app ≡ true → Takes app ws m) → single r (arguments_of false ws) ≡ Some (first_value (found_of m) (codes "first"))
one_taken_by app name r ws m is takes =
    let t : Takes (of_one name r) ws m = subst (λ (a : App). is_simple_and_free a ≡ true → Takes a ws m) is takes refl in
    sym (agrees name r ws t.0)
    ∙ (ap (λ k. told read_one k (matches_of (of_one name r) ws)) t.1
    ∙ ap (λ o. Some o) (ap (first_of (codes "first")) (sym t.2) ∙ sym (first_value-rows (found_of m) (codes "first"))))

pub one_refused_by : (app : App) (name : Text) (r : Bool) (ws : List Text) → app ≡ of_one name r
    → (is_simple_and_free app ≡ true → Refuses app ws) → single r (arguments_of false ws) ≡ None
one_refused_by app name r ws is refuses =
    none_told read_one (fault_of (of_one name r) ws) (matches_of (of_one name r) ws) (single r) (arguments_of false ws) (no_single r)
    (agrees name r ws) (subst (λ (a : App). is_simple_and_free a ≡ true → Refuses a ws) is refuses refl)
  where
    no_single : (t : Bool) → single t None ≡ None
    no_single true = refl
    no_single false = refl
