-- One more policy at the end of a list.
use Rattle.std.proofs.Common.{◌≡◌, ℕ, ◌+◌, ◌<◌, ◌≤◌, Bool, true, false, not, ◌&&◌, ◌||◌, if◌then◌else◌, List, [], ◌∷◌, ◌++◌, length, take, get_or, refl, ◌∙◌, arith, inl, inr, add-one}
use Rattle.std.proofs.lemmas.Bool.{cases_Bool}
use Rattle.std.proofs.Math.Bool.{or-false, or-true}
use Rattle.std.proofs.lemmas.List.{take_more, length-take-le}
use Rattle.std.proofs.lemmas.List.Folds.{list_any-append}
use Rattle.std.proofs.lemmas.List.Sums.{fold-append}
use Rattle.std.specs.List.{list_any}
use Rattle.poa_base.specs.declared.policy.Policy.{Policy}
use Rattle.poa_base.specs.declared.policy.PolicySet.{PolicySet}
use Rattle.poa_base.specs.declared.policy.Policy.TheVariants.{OrbCtrl}
use Rattle.poa_policy.specs.declared.rule.Rule.{Rule}
use Rattle.poa_policy.specs.Rules.{names}
use Rattle.poa_policy.specs.Kinds.{kind_of, same_kind, put}
use Rattle.poa_policy.specs.Settled.{once, listed_over, last_place}

apart : (a o s l : Bool) → (not (a || (s || false)) && (o && not l)) ≡ ((not a && o) && not (s || l))
apart true o s l = refl
apart false true true l = refl
apart false true false l = refl
apart false false true l = refl
apart false false false l = refl

pub once_more : (ps : List Policy) (p : Policy) → once (ps ++ p ∷ []) ≡ (once ps && not (list_any (λ q. same_kind q p) ps))
once_more [] p = refl
once_more (q ∷ ps) p =
    rw (list_any-append (same_kind q) ps (p ∷ []), once_more ps p)
    (apart (list_any (same_kind q) ps) (once ps) (same_kind q p) (list_any (λ r. same_kind r p) ps))

pub listed_over_more : (set : PolicySet) (ps : List Policy) (p : Policy) → listed_over set (ps ++ p ∷ []) ≡ put (listed_over set ps) p
listed_over_more set ps p = fold-append put set ps (p ∷ [])

pub last_place_more : (test : Policy → Bool) (ps : List Policy) (p : Policy)
    → last_place test (ps ++ p ∷ []) ≡ (if test p then length ps else last_place test ps)
last_place_more test [] p = elim (cases_Bool (test p)) [ inl here ↦ rw here | inr other ↦ rw other ]
last_place_more test (q ∷ ps) p =
    elim (cases_Bool (test p)) [
      | inl here ↦ rw (list_any-append test ps (p ∷ []), last_place_more test ps p, here, or-true (list_any test ps), add-one)
      | inr other ↦ rw (list_any-append test ps (p ∷ []), last_place_more test ps p, other, or-false (list_any test ps))
    ]

-- a step of the loop that looks for the last place
pub last_named_more : (ps : List Policy) (r : Rule) (i last next : ℕ) → i < length ps → last ≤ i → last ≡ last_place (λ p. names r (kind_of p)) (take i ps)
    → next ≡ (if names r (kind_of (get_or ps i OrbCtrl)) then i else last)
    → record { within : next ≤ i + 1; place : next ≡ last_place (λ p. names r (kind_of p)) (take (i + 1) ps) }
last_named_more ps r i last next lt within place step =
    let here = λ (p : Policy). names r (kind_of p) in
    let front : take (i + 1) ps ≡ take i ps ++ get_or ps i OrbCtrl ∷ [] = take_more ps i OrbCtrl lt in
    let count : length (take i ps) ≡ i = length-take-le i ps (omega arith) in
    elim (cases_Bool (names r (kind_of (get_or ps i OrbCtrl)))) [
      | inl yes_here ↦
          let value : next ≡ i = step ∙ rw yes_here in
          record { within = omega arith; place = rw (front, last_place_more here (take i ps) (get_or ps i OrbCtrl), yes_here, count) value }
      | inr other ↦
          let value : next ≡ last = step ∙ rw other in
          record { within = omega arith; place = rw (front, last_place_more here (take i ps) (get_or ps i OrbCtrl), other) (value ∙ place) }
    ]
