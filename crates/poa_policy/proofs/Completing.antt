-- A list can be completed exactly where it can be on the policies by which no rule can be broken.
use Rattle.std.proofs.Common.{◌≡◌, ℕ, Bool, true, false, not, ◌&&◌, ◌==◌, ◌⊎◌, if◌then◌else◌, is_none, Some, None, List, [], ◌∷◌, sym, refl, ap, ◌∙◌, inl, inr, eqb-true}
use Rattle.std.proofs.lemmas.Bool.{cases_Bool, false≢true, and_parts}
use Rattle.std.proofs.Math.Bool.{or-true}
use Rattle.std.specs.List.{list_any, AllByRecursion}
use Rattle.std.proofs.lemmas.List.Elements.{All-from_recursion, recursion_from_All}
use Rattle.poa_base.specs.declared.policy.Policy.{Policy}
use Rattle.poa_base.specs.declared.policy.Policy.TheVariants.{MultipleId, SystemId, NoImplicit, Retain, ServantManager}
use Rattle.poa_base.specs.declared.policy.PolicySet.{PolicySet}
use Rattle.poa_policy.specs.declared.kind.PolicyKind.{PolicyKind}
use Rattle.poa_policy.specs.declared.kind.PolicyKind.TheVariants as kind
use Rattle.poa_policy.specs.declared.rule.Rule.{Rule}
use Rattle.poa_policy.specs.declared.rule.Rule.TheVariants.{MapOnlyRetains, DefaultServantIsShared, ImplicitMakesIds}
use Rattle.poa_policy.specs.Kinds.{kind_of, of_kind, number_of, is_of, same_kind, put, put_of, IsSet, Has}
use Rattle.poa_base.specs.Policies.{is_multiple_id, is_system_id, is_implicit, is_retain, is_map_only, is_default_servant}
use Rattle.poa_policy.specs.Rules.{needs, keeps, first_broken, harmless, defaults}
use Rattle.poa_policy.specs.Settled.{once, listed_over, completable, CanComplete}

-- a policy put into a set stands at its kind, and nothing else changes
put_of_at : (k j : PolicyKind) (set : PolicySet) (p : Policy) → of_kind k (put_of j set p) ≡ (if number_of k == number_of j then p else of_kind k set)
put_of_at kind.Thread kind.Thread set p = refl
put_of_at kind.Lifespan kind.Lifespan set p = refl
put_of_at kind.Uniqueness kind.Uniqueness set p = refl
put_of_at kind.Assignment kind.Assignment set p = refl
put_of_at kind.Implicit kind.Implicit set p = refl
put_of_at kind.Retention kind.Retention set p = refl
put_of_at kind.Processing kind.Processing set p = refl
put_of_at _ _ set p = refl

put_at : (k : PolicyKind) (set : PolicySet) (p : Policy) → of_kind k (put set p) ≡ (if is_of k p then p else of_kind k set)
put_at k set p = put_of_at k (kind_of p) set p

put_here : (set : PolicySet) (p : Policy) → of_kind (kind_of p) (put set p) ≡ p
put_here set p = put_at (kind_of p) set p ∙ rw (same_itself (kind_of p)) where
  same_itself : (k : PolicyKind) → (number_of k == number_of k) ≡ true
  same_itself kind.Thread = refl
  same_itself kind.Lifespan = refl
  same_itself kind.Uniqueness = refl
  same_itself kind.Assignment = refl
  same_itself kind.Implicit = refl
  same_itself kind.Retention = refl
  same_itself kind.Processing = refl

-- a kind is known by its number
kind_at : ℕ → PolicyKind
kind_at n =
    if n == 0 then kind.Thread else
    (if n == 1 then kind.Lifespan else
    (if n == 2 then kind.Uniqueness else
    (if n == 3 then kind.Assignment else (if n == 4 then kind.Implicit else (if n == 5 then kind.Retention else kind.Processing)))))

kind_at-number_of : (k : PolicyKind) → kind_at (number_of k) ≡ k
unfolding kind_at
kind_at-number_of kind.Thread = refl
kind_at-number_of kind.Lifespan = refl
kind_at-number_of kind.Uniqueness = refl
kind_at-number_of kind.Assignment = refl
kind_at-number_of kind.Implicit = refl
kind_at-number_of kind.Retention = refl
kind_at-number_of kind.Processing = refl

pub kind_of-is_of : (k : PolicyKind) (p : Policy) → is_of k p ≡ true → k ≡ kind_of p
kind_of-is_of k p same = sym (kind_at-number_of k) ∙ ap kind_at (eqb-true (number_of k) (number_of (kind_of p)) same) ∙ kind_at-number_of (kind_of p)

-- what is not listed stays as it was in the set
pub unlisted : (k : PolicyKind) (set : PolicySet) (ps : List Policy) → list_any (is_of k) ps ≡ false → of_kind k (listed_over set ps) ≡ of_kind k set
unlisted k set [] none = refl
unlisted k set (p ∷ ps) none = elim (cases_Bool (is_of k p)) [
  | inl here ↦ absurd (false≢true (sym none ∙ rw here))
  | inr other ↦ unlisted k (put set p) ps (sym (rw other) ∙ none) ∙ put_at k set p ∙ rw other
]

-- what is listed once stands in the set
pub has_each : (set : PolicySet) (ps : List Policy) → once ps ≡ true → AllByRecursion (Has (listed_over set ps)) ps
has_each set [] single = tt
has_each set (p ∷ ps) single =
    let (alone, rest) = both (list_any (same_kind p) ps) (once ps) single in
    (unlisted (kind_of p) (put set p) ps alone ∙ put_here set p, has_each (put set p) ps rest)
  where
    both : (a b : Bool) → (not a && b) ≡ true → (a ≡ false) × (b ≡ true)
    both true b h = absurd (false≢true h)
    both false b h = (refl, h)

is_set_put : (set : PolicySet) (p : Policy) → IsSet set → IsSet (put set p)
is_set_put set p own = λ k. elim (cases_Bool (is_of k p)) [
  | inl here ↦ rw (put_at k set p, here) (sym (kind_of-is_of k p here))
  | inr other ↦ rw (put_at k set p, other) (own k)
]

-- each policy stays of its own kind
pub is_set_over : (set : PolicySet) (ps : List Policy) → IsSet set → IsSet (listed_over set ps)
is_set_over set [] own = own
is_set_over set (p ∷ ps) own = is_set_over (put set p) ps (is_set_put set p own)

-- at each kind, the listed policies over a set are those of any set that has them, or the first set's
listed_or : (k : PolicyKind) (set whole : PolicySet) (ps : List Policy) → AllByRecursion (Has whole) ps → (of_kind k (listed_over set ps) ≡ of_kind k whole)
    ⊎ (of_kind k (listed_over set ps) ≡ of_kind k set)
listed_or k set whole [] has = inr refl
listed_or k set whole (p ∷ ps) has =
    elim (listed_or k (put set p) whole ps has.1) [
      | inl listed ↦ inl listed
      | inr kept ↦ elim (cases_Bool (is_of k p)) [
        | inl here ↦ inl (kept ∙ put_at k set p ∙ rw here (sym has.0 ∙ ap (λ j. of_kind j whole) (sym (kind_of-is_of k p here))))
        | inr other ↦ inr (kept ∙ put_at k set p ∙ rw other)
      ]
    ]

-- a need that the whole meets is met where each side is the whole's or harmless
needs_met : (this that : Policy → Bool) (p q p' q' mild ready : Policy) → this mild ≡ false → that ready ≡ true → (p ≡ p') ⊎ (p ≡ mild) → (q ≡ q') ⊎ (q ≡ ready)
    → needs this that p' q' ≡ true → needs this that p q ≡ true
needs_met this that p q p' q' mild ready calm meets left right met =
    elim left [
      | inr mildly ↦ rw (mildly, calm)
      | inl same ↦ elim right [
        | inr readily ↦ rw (readily, meets) (or-true (not (this p)))
        | inl also ↦ rw (same, also) met
      ]
    ]

-- what is true of the three rules together
pub kept : (set : PolicySet) → is_none (first_broken set) ≡ true → (r : Rule) → keeps r set ≡ true
kept set none = λ r. each r (parts (keeps MapOnlyRetains set) (keeps DefaultServantIsShared set) (keeps ImplicitMakesIds set) none) where
  parts : (a b c : Bool)
      → is_none (if not a then Some MapOnlyRetains else (if not b then Some DefaultServantIsShared else (if not c then Some ImplicitMakesIds else None))) ≡ true
      → (a ≡ true) × (b ≡ true) × (c ≡ true)
  parts true true true h = (refl, refl, refl)
  parts true true false h = absurd (false≢true h)
  parts true false c h = absurd (false≢true h)
  parts false b c h = absurd (false≢true h)

  each : (r : Rule) → (keeps MapOnlyRetains set ≡ true) × (keeps DefaultServantIsShared set ≡ true) × (keeps ImplicitMakesIds set ≡ true) → keeps r set ≡ true
  each MapOnlyRetains h = h.0
  each DefaultServantIsShared h = h.1
  each ImplicitMakesIds h = h.2

-- the rule's test fails among those of the three rules
abbrev Fails : Rule → Bool → Bool → Bool → Type 0
Fails MapOnlyRetains a b c = a ≡ false
Fails DefaultServantIsShared a b c = b ≡ false
Fails ImplicitMakesIds a b c = c ≡ false

fails_first : (a b c : Bool) (r : Rule)
    → (if not a then Some MapOnlyRetains else (if not b then Some DefaultServantIsShared else (if not c then Some ImplicitMakesIds else None))) ≡ Some r
    → Fails r a b c
fails_first false b c MapOnlyRetains first = refl
fails_first true false c DefaultServantIsShared first = refl
fails_first true true false ImplicitMakesIds first = refl
fails_first _ _ _ _ first = cc

pub broken : (set : PolicySet) (r : Rule) → first_broken set ≡ Some r → keeps r set ≡ false
broken set MapOnlyRetains first = fails_first (keeps MapOnlyRetains set) (keeps DefaultServantIsShared set) (keeps ImplicitMakesIds set) MapOnlyRetains first
broken set DefaultServantIsShared first =
    fails_first (keeps MapOnlyRetains set) (keeps DefaultServantIsShared set) (keeps ImplicitMakesIds set) DefaultServantIsShared first
broken set ImplicitMakesIds first =
    fails_first (keeps MapOnlyRetains set) (keeps DefaultServantIsShared set) (keeps ImplicitMakesIds set) ImplicitMakesIds first

-- the rules that a completion keeps are kept on the harmless policies
keeps_mildly : (r : Rule) (set : PolicySet) (ps : List Policy) → AllByRecursion (Has set) ps → keeps r set ≡ true → keeps r (listed_over harmless ps) ≡ true
keeps_mildly MapOnlyRetains set ps has met =
    needs_met is_map_only is_retain _ _ set.processing set.retention ServantManager Retain refl refl (listed_or kind.Processing harmless set ps has)
    (listed_or kind.Retention harmless set ps has) met
keeps_mildly DefaultServantIsShared set ps has met =
    needs_met is_default_servant is_multiple_id _ _ set.processing set.uniqueness ServantManager MultipleId refl refl
    (listed_or kind.Processing harmless set ps has) (listed_or kind.Uniqueness harmless set ps has) met
keeps_mildly ImplicitMakesIds set ps has met =
    let (ids, map) = and_parts _ _ met in
    rw (
      needs_met is_implicit is_system_id _ _ set.implicit set.assignment NoImplicit SystemId refl refl (listed_or kind.Implicit harmless set ps has)
          (listed_or kind.Assignment harmless set ps has) ids,
      needs_met is_implicit is_retain _ _ set.implicit set.retention NoImplicit Retain refl refl (listed_or kind.Implicit harmless set ps has)
          (listed_or kind.Retention harmless set ps has) map,
    )

none_broken : (set : PolicySet) → ((r : Rule) → keeps r set ≡ true) → is_none (first_broken set) ≡ true
none_broken set all = rw (all MapOnlyRetains, all DefaultServantIsShared, all ImplicitMakesIds)

harmless_is_set : IsSet harmless
harmless_is_set kind.Thread = refl
harmless_is_set kind.Lifespan = refl
harmless_is_set kind.Uniqueness = refl
harmless_is_set kind.Assignment = refl
harmless_is_set kind.Implicit = refl
harmless_is_set kind.Retention = refl
harmless_is_set kind.Processing = refl

pub defaults_is_set : IsSet defaults
defaults_is_set kind.Thread = refl
defaults_is_set kind.Lifespan = refl
defaults_is_set kind.Uniqueness = refl
defaults_is_set kind.Assignment = refl
defaults_is_set kind.Implicit = refl
defaults_is_set kind.Retention = refl
defaults_is_set kind.Processing = refl

pub can_complete : (ps : List Policy) → completable ps ≡ true → CanComplete ps
can_complete ps can =
    let (alone, whole) = and_parts (once ps) (is_none (first_broken (listed_over harmless ps))) can in
    record {
      single = alone;
      set = listed_over harmless ps;
      is_set = is_set_over harmless ps harmless_is_set;
      has = All-from_recursion (Has (listed_over harmless ps)) ps (has_each harmless ps alone);
      keeps_rules = kept (listed_over harmless ps) whole;
    }

pub completable_from : (ps : List Policy) → CanComplete ps → completable ps ≡ true
completable_from ps can =
    let has = recursion_from_All (Has can.set) ps can.has in
    rw (can.single, none_broken (listed_over harmless ps) (λ r. keeps_mildly r can.set ps has (can.keeps_rules r)))
