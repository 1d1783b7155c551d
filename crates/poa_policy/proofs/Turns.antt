-- The loop that settles a list: where it stands after each policy, and where it ends.
use Rattle.std.proofs.Common.{◌≡◌, ℕ, ◌+◌, ◌<◌, ◌≤◌, Bool, true, false, not, if◌then◌else◌, Option, Some, None, Result, Err, List, [], ◌∷◌, ◌++◌, length, take, drop, get_or, map, sym, refl, ap, ◌∙◌, arith, inl, inr, eqb, eqb-true, is_none, subst, lit<}
use Rattle.std.proofs.lemmas.List.{length-map}
use Rattle.std.proofs.lemmas.Bool.{cases_Bool, false≢true, and_parts, or_parts}
use Rattle.std.proofs.lemmas.List.{take_more, drop_more, take_all, drop_all, length-take-le}
use Rattle.std.proofs.lemmas.Map.Steps.{length-le_from_distinct_below}
use Rattle.std.specs.List.{list_any, AllByRecursion, IsDistinct}
use Rattle.poa_base.specs.declared.policy.Policy.{Policy}
use Rattle.poa_base.specs.declared.policy.Policy.TheVariants.{OrbCtrl}
use Rattle.poa_base.specs.declared.policy.PolicySet.{PolicySet}
use Rattle.poa_policy.specs.declared.kind.PolicyKind.{PolicyKind}
use Rattle.poa_policy.specs.declared.kind.PolicyKind.TheVariants as kind
use Rattle.poa_policy.specs.declared.settling.InvalidPolicy.{InvalidPolicy}
use Rattle.poa_policy.specs.Kinds.{kind_of, number_of, same_kind, put}
use Rattle.poa_policy.specs.Rules.{defaults, harmless, first_broken}
use Rattle.poa_policy.specs.Settled.{once, listed_over, completable, first_spoiler, settled_by, settled_unless, Settled, settled as the_settled}
use Rattle.poa_policy.proofs.SettledLaws.{settled_law}
use Rattle.poa_policy.specs.declared.rule.Rule.{Rule}
use Rattle.poa_policy.proofs.Listing.{listed_over_more}

-- the first i policies can be completed, and both sets have them
pub record Reached (ps : List Policy) (i : ℕ) (set filled : PolicySet) : Type 0 where
  pub settles : set ≡ listed_over defaults (take i ps)
  pub fills : filled ≡ listed_over harmless (take i ps)
  pub can : completable (take i ps) ≡ true
  pub same : first_spoiler (take i ps) (drop i ps) ≡ first_spoiler [] ps

-- a list in which no kind stands twice is short
numbers_of : List Policy → List ℕ
numbers_of ps = map (λ q. number_of (kind_of q)) ps

numbers_apart : (p : Policy) (ps : List Policy) → list_any (same_kind p) ps ≡ false
    → AllByRecursion (λ n. eqb (number_of (kind_of p)) n ≡ false) (numbers_of ps)
unfolding numbers_of
numbers_apart p [] none = tt
numbers_apart p (q ∷ ps) none = let (here, rest) = or_parts (same_kind p q) (list_any (same_kind p) ps) none in (here, numbers_apart p ps rest)

numbers_distinct : (ps : List Policy) → once ps ≡ true → IsDistinct eqb (numbers_of ps)
unfolding numbers_of IsDistinct
numbers_distinct [] single = tt
numbers_distinct (p ∷ ps) single =
    let (alone, rest) = and_parts (not (list_any (same_kind p) ps)) (once ps) single in
    (numbers_apart p ps (true-not (list_any (same_kind p) ps) alone), numbers_distinct ps rest)
  where
    true-not : (b : Bool) → not b ≡ true → b ≡ false
    true-not true h = absurd (false≢true h)
    true-not false h = refl

number_below : (k : PolicyKind) → number_of k < 7
number_below kind.Thread = lit< tt
number_below kind.Lifespan = lit< tt
number_below kind.Uniqueness = lit< tt
number_below kind.Assignment = lit< tt
number_below kind.Implicit = lit< tt
number_below kind.Retention = lit< tt
number_below kind.Processing = lit< tt

numbers_below : (ps : List Policy) (q : ℕ) → list_any (eqb q) (numbers_of ps) ≡ true → q < 7
unfolding numbers_of
numbers_below [] q some = absurd (false≢true some)
numbers_below (p ∷ ps) q some =
    elim (cases_Bool (eqb q (number_of (kind_of p)))) [
      | inl same ↦ rw (eqb-true q (number_of (kind_of p)) same) (number_below (kind_of p))
      | inr other ↦ numbers_below ps q (rw other at some)
    ]

pub once_short : (ps : List Policy) → once ps ≡ true → length ps ≤ 7
unfolding numbers_of
once_short ps single =
    subst (λ n. n ≤ 7) (length-map ps (λ q. number_of (kind_of q)))
    (length-le_from_distinct_below (numbers_of ps) 7 (numbers_distinct ps single) (numbers_below ps))

-- one more policy is passed, or spoils the list
spoiler_more : (ps : List Policy) (i : ℕ) → i < length ps
    → first_spoiler (take i ps) (drop i ps) ≡ (if completable (take (i + 1) ps) then first_spoiler (take (i + 1) ps) (drop (i + 1) ps) else Some i)
spoiler_more ps i lt =
    rw (drop_more ps i OrbCtrl lt, take_more ps i OrbCtrl lt, length-take-le i ps (omega arith))

pub reached_more : (ps : List Policy) (i : ℕ) (set filled : PolicySet) → i < length ps → Reached ps i set filled
    → completable (take i ps ++ get_or ps i OrbCtrl ∷ []) ≡ true
    → Reached ps (i + 1) (put set (get_or ps i OrbCtrl)) (put filled (get_or ps i OrbCtrl))
reached_more ps i set filled lt inv can =
    let front : take (i + 1) ps ≡ take i ps ++ get_or ps i OrbCtrl ∷ [] = take_more ps i OrbCtrl lt in
    let can_more : completable (take (i + 1) ps) ≡ true = rw front can in
    record {
      settles = rw (front, listed_over_more defaults (take i ps) (get_or ps i OrbCtrl), inv.settles);
      fills = rw (front, listed_over_more harmless (take i ps) (get_or ps i OrbCtrl), inv.fills);
      can = can_more;
      same = sym (spoiler_more ps i lt ∙ rw can_more) ∙ inv.same;
    }

pub few : (ps : List Policy) (i : ℕ) (set filled : PolicySet) → i ≤ length ps → Reached ps i set filled → i ≤ 7
few ps i set filled within inv =
    let (single, whole) = and_parts (once (take i ps)) (is_none (first_broken (listed_over harmless (take i ps)))) inv.can in
    let short : length (take i ps) ≤ 7 = once_short (take i ps) single in
    omega (arith, length-take-le i ps within)

-- both clauses follow from the second
pub record Answers (ps : List Policy) (r : Result PolicySet InvalidPolicy) : Type 0 where
  pub settled : Settled ps r
  pub same : r ≡ the_settled ps

answers : (ps : List Policy) (r : Result PolicySet InvalidPolicy) → r ≡ the_settled ps → Answers ps r
answers ps r same = record { settled = subst (Settled ps) (sym same) (settled_law ps); same = same }

pub answers_bad : (ps : List Policy) (i : ℕ) (set filled : PolicySet) → i < length ps → Reached ps i set filled
    → completable (take i ps ++ get_or ps i OrbCtrl ∷ []) ≡ false
    → Answers ps (Err (record { index = i }))
unfolding the_settled
answers_bad ps i set filled lt inv bad =
    let spoiled : completable (take (i + 1) ps) ≡ false = rw (take_more ps i OrbCtrl lt) bad in
    let here : first_spoiler (take i ps) (drop i ps) ≡ Some i = rw spoiled at (spoiler_more ps i lt) in
    answers ps (Err (record { index = i })) (ap (λ o. settled_unless o ps) (sym here ∙ inv.same))

pub answers_end : (ps : List Policy) (i : ℕ) (set filled : PolicySet) (rule : Option Rule) → length ps ≤ i → Reached ps i set filled → rule ≡ first_broken set
    → Answers ps (settled_by rule set ps)
unfolding the_settled
answers_end ps i set filled rule past inv first =
    let all : set ≡ listed_over defaults ps = inv.settles ∙ ap (listed_over defaults) (take_all i ps past) in
    let none : None ≡ first_spoiler [] ps = sym (rw (drop_all i ps past)) ∙ inv.same in
    answers ps (settled_by rule set ps) (rw (first, all) (ap (λ o. settled_unless o ps) none))
