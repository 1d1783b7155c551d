-- The policy set that a list of policies gives, or the index of the policy that is refused.
use Rattle.std.specs.Prelude.{◌≡◌, ◌<◌, ◌+◌, ◌⊎◌, ℕ, Bool, true, false, not, ◌&&◌, if◌then◌else◌, Option, Some, None, is_none, Result, Ok, Err, List, [], ◌∷◌, ◌++◌, length, take, drop, fold, All, slice_get}
use Rattle.std.specs.List.{list_any}
use Rattle.poa_base.specs.declared.policy.Policy.{Policy}
use Rattle.poa_base.specs.declared.policy.PolicySet.{PolicySet}
use Rattle.poa_policy.specs.declared.rule.Rule.{Rule}
use Rattle.poa_policy.specs.declared.settling.InvalidPolicy.{InvalidPolicy}
use Rattle.poa_policy.specs.Kinds.{kind_of, of_kind, is_of, same_kind, IsSet, Has, put}
use Rattle.poa_policy.specs.Rules.{keeps, names, first_broken, defaults, harmless}
use Rattle.poa_policy.specs.declared.kind.PolicyKind.{PolicyKind}

-- no kind stands twice
abbrev pub once : List Policy → Bool
once [] = true
once (p ∷ ps) = not (list_any (same_kind p) ps) && once ps

-- the set, with the listed policies in place of its own
abbrev pub listed_over : PolicySet → List Policy → PolicySet
listed_over set ps = fold put set ps

-- no kind stands twice, and some policies of the kinds that are not listed meet the rules with those that are
pub record CanComplete (ps : List Policy) : Type 0 where
  pub single : once ps ≡ true
  pub set : PolicySet
  pub is_set : IsSet set
  pub has : All (Has set) ps
  pub keeps_rules : (r : Rule) → keeps r set ≡ true

-- the first policy after which the list so far cannot be completed
pub record Spoils (ps : List Policy) (i : ℕ) : Type 0 where
  pub within : i < length ps
  pub before : CanComplete (take i ps)
  pub after : ¬ CanComplete (take (i + 1) ps)

-- the last listed policy whose kind is named by the first rule that the defaults of the other kinds break
pub record BreaksByDefault (ps : List Policy) (i : ℕ) : Type 0 where
  pub can : CanComplete ps
  pub rule : Rule
  pub broken : first_broken (listed_over defaults ps) ≡ Some rule
  pub policy : Policy
  pub here : slice_get ps i ≡ Some policy
  pub named : names rule (kind_of policy) ≡ true
  pub last : list_any (λ p. names rule (kind_of p)) (drop (i + 1) ps) ≡ false

-- the listed policies, and the defaults of the other kinds
pub record IsSettled (ps : List Policy) (set : PolicySet) : Type 0 where
  pub single : once ps ≡ true
  pub has : All (Has set) ps
  pub others : (k : PolicyKind) → list_any (is_of k) ps ≡ false → of_kind k set ≡ of_kind k defaults
  pub is_set : IsSet set
  pub keeps_rules : (r : Rule) → keeps r set ≡ true

abbrev pub Settled : List Policy → Result PolicySet InvalidPolicy → Type 0
Settled ps (Ok set) = IsSettled ps set
Settled ps (Err fault) = Spoils ps fault.index ⊎ BreaksByDefault ps fault.index

-- The same as a function, which tests whether a list can be completed on the one set by which no rule can be broken.
abbrev pub completable : List Policy → Bool
completable ps = once ps && is_none (first_broken (listed_over harmless ps))

abbrev pub first_spoiler : List Policy → List Policy → Option ℕ
first_spoiler done [] = None
first_spoiler done (p ∷ ps) = if completable (done ++ p ∷ []) then first_spoiler (done ++ p ∷ []) ps else Some (length done)

abbrev pub last_place : (Policy → Bool) → List Policy → ℕ
last_place test [] = 0
last_place test (p ∷ ps) = if list_any test ps then last_place test ps + 1 else 0

-- the set where it keeps the rules, else the last listed policy whose kind the first broken rule names
abbrev pub settled_by : Option Rule → PolicySet → List Policy → Result PolicySet InvalidPolicy
settled_by None set ps = Ok set
settled_by (Some r) set ps = Err (record { index = last_place (λ p. names r (kind_of p)) ps })

abbrev pub settled_unless : Option ℕ → List Policy → Result PolicySet InvalidPolicy
settled_unless (Some i) ps = Err (record { index = i })
settled_unless None ps = settled_by (first_broken (listed_over defaults ps)) (listed_over defaults ps) ps

unfoldable pub settled : List Policy → Result PolicySet InvalidPolicy
settled ps = settled_unless (first_spoiler [] ps) ps
