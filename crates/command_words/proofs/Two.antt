-- What clap finds in words that are arguments, where the command has two places.
use Rattle.std.proofs.Common.{◌≡◌, ◌∙◌, Bool, true, false, List, [], ◌∷◌, Option, Some, None, is_some, inl, inr, refl, sym, ap, ap₂, subst, codes}
use Rattle.clap.specs.Words.{App, Row, Text, fault_of, first_of, first_value, found_of, is_simple_and_free, matches_of}
use Rattle.clap.specs.declared.parser.matches.ArgMatches.{ArgMatches}
use Rattle.clap.proofs.WalkLemmas.{first_value-rows}
use Rattle.clap.specs.Simple.{built}
use Rattle.clap.specs.Walk.{Held, nothing_held, settled}
use Rattle.clap.proofs.OnLiterals.{clap_on_literals}
use Rattle.command_words.specs.Apps.{AreArguments, Refuses, Takes, of_two}
use Rattle.command_words.specs.Words.{arguments_of, exactly_two, with_argument}
use Rattle.command_words.proofs.Standing.{more_follow, next_word}
use Rattle.command_words.proofs.Walking.{argument_refused, argument_taken, end_of_options, goes_on, none_told, standing, told, told_from}
use Rattle.command_words.proofs.One.{first_held}

-- both arguments, of which the second is not yet among the matches
abbrev both_held : Text → Text → Text → Held
both_held name a b = record (settled (built (of_two name)).top.rules (first_held a)) { pending = Some (codes "second", b ∷ []) }

abbrev read_two : List Row → Option Text × Option Text
read_two rows = (first_of (codes "first") rows, first_of (codes "second") rows)

-- two arguments as clap has them
abbrev found_both : Option (Text × Text) → Option (Option Text × Option Text)
found_both None = None
found_both (Some p) = Some (Some p.0, Some p.1)

abbrev left : Option (Option Text × Option Text) → Option Text
left None = None
left (Some found) = found.0

abbrev right : Option (Option Text × Option Text) → Option Text
right None = None
right (Some found) = found.1

abbrev wanted_two : Option (List Text) → Option (Option Text × Option Text)
wanted_two arguments = found_both (exactly_two arguments)

one_too_many : (a b : Text) (w : Option Text) (more : Option (List Text))
    → wanted_two (with_argument (Some a) (with_argument (Some b) (with_argument w more))) ≡ None
one_too_many a b None more = refl
one_too_many a b (Some w) None = refl
one_too_many a b (Some w) (Some ws) = refl

-- both places are taken
two_taken : (name : Text) (marked : Bool) (a b : Text) (ws : List Text) → is_some (arguments_of marked ws) ≡ true
    → told_from (built (of_two name)) read_two (standing (both_held name a b) 3 marked) ws ≡ wanted_two
    (with_argument (Some a) (with_argument (Some b) (arguments_of marked ws)))
unfolding clap_on_literals
two_taken name true a b [] h = refl
two_taken name false a b [] h = refl
two_taken name true a b (w ∷ ws) h = sym (one_too_many a b _ (arguments_of true ws))
two_taken name false a b (w ∷ ws) h = elim (next_word w ws h) [
  | inl e ↦ end_of_options (built (of_two name)) read_two (both_held name a b) 3 w ws e.is
      ∙ (two_taken name true a b ws e.more ∙ ap (λ more. wanted_two (with_argument (Some a) (with_argument (Some b) more))) (sym e.all))
  | inr p ↦ argument_refused (built (of_two name)) read_two (both_held name a b) 3 w ws _ _ p refl
      ∙ sym (ap (λ more. wanted_two (with_argument (Some a) (with_argument (Some b) more))) p.all ∙ one_too_many a b (Some w) (arguments_of false ws))
]

-- the first place is taken
first_taken : (name : Text) (marked : Bool) (a : Text) (ws : List Text) → is_some (arguments_of marked ws) ≡ true
    → told_from (built (of_two name)) read_two (standing (first_held a) 2 marked) ws ≡ wanted_two (with_argument (Some a) (arguments_of marked ws))
unfolding clap_on_literals
first_taken name true a [] h = refl
first_taken name false a [] h = refl
first_taken name true a ([] ∷ ws) h = cc
first_taken name true a ((c ∷ cs) ∷ ws) h =
    goes_on (built (of_two name)) read_two (standing (first_held a) 2 true) (standing (both_held name a (c ∷ cs)) 3 true) (c ∷ cs) ws refl refl
    ∙ two_taken name true a (c ∷ cs) ws (more_follow (c ∷ cs) (arguments_of true ws) h)
first_taken name false a (w ∷ ws) h = elim (next_word w ws h) [
  | inl e ↦ end_of_options (built (of_two name)) read_two (first_held a) 2 w ws e.is
      ∙ (first_taken name true a ws e.more ∙ ap (λ more. wanted_two (with_argument (Some a) more)) (sym e.all))
  | inr p ↦ argument_taken (built (of_two name)) read_two (first_held a) 2 (standing (both_held name a w) 3 false) w ws p refl refl
      ∙ (two_taken name false a w ws p.more ∙ ap (λ more. wanted_two (with_argument (Some a) more)) (sym p.all))
]

two_from_start : (name : Text) (marked : Bool) (ws : List Text) → is_some (arguments_of marked ws) ≡ true
    → told_from (built (of_two name)) read_two (standing nothing_held 1 marked) ws ≡ wanted_two (arguments_of marked ws)
unfolding clap_on_literals
two_from_start name true [] h = refl
two_from_start name false [] h = refl
two_from_start name true ([] ∷ ws) h = cc
two_from_start name true ((c ∷ cs) ∷ ws) h =
    goes_on (built (of_two name)) read_two (standing nothing_held 1 true) (standing (first_held (c ∷ cs)) 2 true) (c ∷ cs) ws refl refl
    ∙ first_taken name true (c ∷ cs) ws (more_follow (c ∷ cs) (arguments_of true ws) h)
two_from_start name false (w ∷ ws) h = elim (next_word w ws h) [
  | inl e ↦ end_of_options (built (of_two name)) read_two nothing_held 1 w ws e.is
      ∙ (two_from_start name true ws e.more ∙ ap wanted_two (sym e.all))
  | inr p ↦ argument_taken (built (of_two name)) read_two nothing_held 1 (standing (first_held w) 2 false) w ws p refl refl
      ∙ (first_taken name false w ws p.more ∙ ap wanted_two (sym p.all))
]

agrees : (name : Text) (ws : List Text) → AreArguments ws
    → told read_two (fault_of (of_two name) ws) (matches_of (of_two name) ws) ≡ wanted_two (arguments_of false ws)
agrees name ws h = two_from_start name false ws h

two_found : (app : App) (name : Text) (ws : List Text) (m : ArgMatches) → app ≡ of_two name
    → (is_simple_and_free app ≡ true → Takes app ws m)
    → wanted_two (arguments_of false ws) ≡ Some (first_value (found_of m) (codes "first"), first_value (found_of m) (codes "second"))
two_found app name ws m is takes =
    let t : Takes (of_two name) ws m = subst (λ (a : App). is_simple_and_free a ≡ true → Takes a ws m) is takes refl in
    sym (agrees name ws t.0)
    ∙ (ap (λ k. told read_two k (matches_of (of_two name) ws)) t.1
    ∙ ap₂ (λ a b. Some (a, b)) (ap (first_of (codes "first")) (sym t.2) ∙ sym (first_value-rows (found_of m) (codes "first")))
    (ap (first_of (codes "second")) (sym t.2) ∙ sym (first_value-rows (found_of m) (codes "second"))))

pub two_taken_by : (app : App) (name : Text) (ws : List Text) (m : ArgMatches) (a b : Text) → app ≡ of_two name
    → (is_simple_and_free app ≡ true → Takes app ws m)
    → first_value (found_of m) (codes "first") ≡ Some a → first_value (found_of m) (codes "second") ≡ Some b
    → exactly_two (arguments_of false ws) ≡ Some (a, b)
two_taken_by app name ws m a b is takes first second =
    go (exactly_two (arguments_of false ws)) (two_found app name ws m is takes ∙ ap₂ (λ x y. Some (x, y)) first second)
  where
    go : (o : Option (Text × Text)) → found_both o ≡ Some (Some a, Some b) → o ≡ Some (a, b)
    go None e = cc
    go (Some p) e =
        let first_is : Some p.0 ≡ Some a = ap left e in
        let second_is : Some p.1 ≡ Some b = ap right e in
        let a_is : p.0 ≡ a = cc in
        let b_is : p.1 ≡ b = cc in
        ap₂ (λ x y. Some (x, y)) a_is b_is

pub both_there : (app : App) (name : Text) (ws : List Text) (m : ArgMatches) → app ≡ of_two name
    → (is_simple_and_free app ≡ true → Takes app ws m)
    → (first_value (found_of m) (codes "first") ≡ None → ⊥) × (first_value (found_of m) (codes "second") ≡ None → ⊥)
both_there app name ws m is takes = go (exactly_two (arguments_of false ws)) (two_found app name ws m is takes)
  where
    go : (o : Option (Text × Text)) → found_both o ≡ Some (first_value (found_of m) (codes "first"), first_value (found_of m) (codes "second"))
        → (first_value (found_of m) (codes "first") ≡ None → ⊥) × (first_value (found_of m) (codes "second") ≡ None → ⊥)
    go None e = cc
    go (Some p) e = (
      λ no.
          let some : Some p.0 ≡ None = ap left e ∙ no in
          cc,
      λ no.
          let some : Some p.1 ≡ None = ap right e ∙ no in
          cc,
    )

pub two_refused_by : (app : App) (name : Text) (ws : List Text) → app ≡ of_two name
    → (is_simple_and_free app ≡ true → Refuses app ws) → exactly_two (arguments_of false ws) ≡ None
two_refused_by app name ws is refuses =
    go (exactly_two (arguments_of false ws))
    (none_told read_two (fault_of (of_two name) ws) (matches_of (of_two name) ws) wanted_two (arguments_of false ws) refl
    (agrees name ws) (subst (λ (a : App). is_simple_and_free a ≡ true → Refuses a ws) is refuses refl))
  where
    go : (o : Option (Text × Text)) → found_both o ≡ None → o ≡ None
    go None e = refl
    go (Some p) e = cc
