-- The settled set of a list, or its index, is what the definition by completions says.
use Rattle.std.proofs.Common.{◌≡◌, ℕ, ◌+◌, Bool, true, false, ◌||◌, Option, Some, None, List, [], ◌∷◌, ◌++◌, drop, sym, refl, ap, ◌∙◌, arith, inl, inr, add-one, append_assoc, append-nil, MatchOption, length-append}
use Rattle.std.proofs.lemmas.Bool.{cases_Bool, false≢true, or_parts}
use Rattle.std.proofs.Math.Seq.{take-append_seam, take-append-add}
use Rattle.std.proofs.lemmas.List.Elements.{All-from_recursion}
use Rattle.std.specs.List.{list_any, slice_get}
use Rattle.poa_base.specs.declared.policy.Policy.{Policy}
use Rattle.poa_policy.specs.declared.kind.PolicyKind.{PolicyKind}
use Rattle.poa_policy.specs.declared.kind.PolicyKind.TheVariants as kind
use Rattle.poa_policy.specs.declared.rule.Rule.{Rule}
use Rattle.poa_policy.specs.declared.rule.Rule.TheVariants.{MapOnlyRetains, DefaultServantIsShared, ImplicitMakesIds}
use Rattle.poa_policy.specs.Kinds.{kind_of, of_kind, is_of}
use Rattle.poa_policy.specs.Rules.{keeps, names, first_broken, defaults}
use Rattle.poa_policy.specs.Settled.{listed_over, completable, Spoils, Settled, first_spoiler, last_place, settled_by, settled_unless, settled}
use Rattle.poa_policy.proofs.Completing.{can_complete, completable_from, kept, broken, unlisted, has_each, is_set_over, defaults_is_set, kind_of-is_of}

-- the element at the last place, which passes the test, and none after it does
record LastAt (test : Policy → Bool) (ps : List Policy) (i : ℕ) : Type 0 where
  policy : Policy
  here : slice_get ps i ≡ Some policy
  passes : test policy ≡ true
  last : list_any test (drop (i + 1) ps) ≡ false

or_none : (a b : Bool) → (a || b) ≡ true → b ≡ false → a ≡ true
or_none true b either none = refl
or_none false b either none = absurd (false≢true (sym none ∙ either))

last_at : (test : Policy → Bool) (ps : List Policy) → list_any test ps ≡ true → LastAt test ps (last_place test ps)
last_at test [] some = absurd (false≢true some)
last_at test (p ∷ ps) some =
    elim (cases_Bool (list_any test ps)) [
      | inl later ↦
          let found = last_at test ps later in
          rw (later, add-one) (record { policy = found.policy; here = found.here; passes = found.passes; last = rw add-one (rw add-one at found.last) })
      | inr none ↦ rw none (record { policy = p; here = refl; passes = or_none (test p) (list_any test ps) some none; last = none })
    ]

-- a kind that the rule names is not listed where none is
not_listed : (r : Rule) (k : PolicyKind) (ps : List Policy) → names r k ≡ true → list_any (λ p. names r (kind_of p)) ps ≡ false → list_any (is_of k) ps ≡ false
not_listed r k [] named none = refl
not_listed r k (p ∷ ps) named none =
    let (here, rest) = or_parts (names r (kind_of p)) (list_any (λ q. names r (kind_of q)) ps) none in
    elim (cases_Bool (is_of k p)) [
      | inl same ↦ absurd (false≢true (sym here ∙ ap (names r) (sym (kind_of-is_of k p same)) ∙ named))
      | inr other ↦ rw other (not_listed r k ps named rest)
    ]

-- a rule that the defaults break names a kind that is listed
named_listed : (r : Rule) (ps : List Policy) → keeps r (listed_over defaults ps) ≡ false → list_any (λ p. names r (kind_of p)) ps ≡ true
named_listed r ps bad =
    elim (cases_Bool (list_any (λ p. names r (kind_of p)) ps)) [
      | inl some ↦ some
      | inr none ↦ absurd (false≢true (sym bad ∙ kept_by r none))
    ]
  where
    default_at : (r : Rule) (k : PolicyKind) → names r k ≡ true → list_any (λ p. names r (kind_of p)) ps ≡ false
        → of_kind k (listed_over defaults ps) ≡ of_kind k defaults
    default_at r k named none = unlisted k defaults ps (not_listed r k ps named none)

    kept_by : (r : Rule) → list_any (λ p. names r (kind_of p)) ps ≡ false → keeps r (listed_over defaults ps) ≡ true
    kept_by MapOnlyRetains none = rw (default_at MapOnlyRetains kind.Processing refl none, default_at MapOnlyRetains kind.Retention refl none)
    kept_by DefaultServantIsShared none = rw (default_at DefaultServantIsShared kind.Processing refl none)
    kept_by ImplicitMakesIds none = rw (default_at ImplicitMakesIds kind.Implicit refl none)

-- what the search for the first spoiler finds
spoiler_law : (done rest : List Policy) → completable done ≡ true
    → MatchOption (first_spoiler done rest) (completable (done ++ rest) ≡ true) (λ i. Spoils (done ++ rest) i)
spoiler_law done [] can = rw append-nil can
spoiler_law done (p ∷ rest) can =
    elim (cases_Bool (completable (done ++ p ∷ []))) [
      | inl still ↦ rw (still, ← append_assoc done (p ∷ []) rest) (spoiler_law (done ++ p ∷ []) rest still)
      | inr spoiled ↦
          rw spoiled
          (record {
            within = omega (arith, length-append done (p ∷ rest));
            before = rw (take-append_seam done (p ∷ rest)) (can_complete done can);
            after = λ other. false≢true (sym spoiled ∙ completable_from (done ++ p ∷ []) (rw (take-append-add done (p ∷ rest) 1) at other));
          })
    ]

by_default : (ps : List Policy) → completable ps ≡ true → Settled ps (settled_by (first_broken (listed_over defaults ps)) (listed_over defaults ps) ps)
by_default ps can = by (first_broken (listed_over defaults ps)) refl where
  by : (r : Option Rule) → first_broken (listed_over defaults ps) ≡ r → Settled ps (settled_by r (listed_over defaults ps) ps)
  by None whole =
      let alone = (can_complete ps can).single in
      record {
        single = alone;
        has = All-from_recursion _ ps (has_each defaults ps alone);
        others = λ k none. unlisted k defaults ps none;
        is_set = is_set_over defaults ps defaults_is_set;
        keeps_rules = kept (listed_over defaults ps) (rw whole);
      }
  by (Some r) first =
      let found = last_at (λ p. names r (kind_of p)) ps (named_listed r ps (broken (listed_over defaults ps) r first)) in
      inr (record { can = can_complete ps can; rule = r; broken = first; policy = found.policy; here = found.here; named = found.passes; last = found.last })

pub settled_law : (ps : List Policy) → Settled ps (settled ps)
unfolding settled
settled_law ps = by (first_spoiler [] ps) (spoiler_law [] ps refl) where
  by : (o : Option ℕ) → MatchOption o (completable ps ≡ true) (λ i. Spoils ps i) → Settled ps (settled_unless o ps)
  by None can = by_default ps can
  by (Some i) spoils = inl spoils
