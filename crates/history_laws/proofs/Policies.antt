-- What an accepted configuration says of the adapters of a path and of their policies.
use Rattle.std.specs.Prelude.{◌≡◌, ℕ, true, not, List, [], ◌∷◌, Some, None, unwrap_or, length, ◌⊎◌, refl}
use Rattle.std.proofs.Common.{inl, inr, sym, ap, ◌∙◌}
use Rattle.std.proofs.lemmas.Bool.{and_parts, or_cases, false≢true}
use Rattle.poa_base.specs.declared.Config.{Config}
use Rattle.poa_base.specs.declared.AdapterConf.{AdapterConf}
use Rattle.poa_base.specs.declared.Policy.{Policy}
use Rattle.poa_base.specs.declared.Policy.TheVariants.{UniqueId}
use Rattle.poa_base.specs.declared.PolicySet.{PolicySet}
use Rattle.poa_base.specs.Policies.{is_unique_id, is_multiple_id, is_system_id, is_implicit, is_retain}
use Rattle.poa_policy.specs.Rules.{needs}
use Rattle.poa_policy.specs.declared.Rule.TheVariants.{ImplicitMakesIds}
use Rattle.poa_policy.specs.Adapters.{IsAdapter}
use Rattle.poa_policy.specs.Objects.{IsHome}
use Rattle.poa_policy.specs.Parents.{IsBoot}
use Rattle.poa_policy.specs.Kept.{KeepsRules}
use Rattle.history_standing.specs.Paths.{same_path}
use Rattle.history_standing.specs.Trees.{In}
use Rattle.history_standing.proofs.Finding.{find_in, find_none, same_path_self, path_same}
use Rattle.history_standing.specs.Templates.{entry_of, root_template, policies_at, makes_ids, is_unique, activates_implicitly}
use Rattle.poa_history.specs.Sound.{ImplicitMakes}
use Rattle.history_laws.proofs.Entries.{entry_in, each_in, alone_by_key}

pub not_both : (p : Policy) → is_unique_id p ≡ true → is_multiple_id p ≡ true → ⊥
not_both UniqueId unique multiple = false≢true multiple
not_both p unique multiple = false≢true unique

module _ (c : Config) (rules : KeepsRules c) where
  adapter_alone : (a b : AdapterConf) → In a c.adapters → In b c.adapters → a.path ≡ b.path → a ≡ b
  adapter_alone a b is is' =
      alone_by_key (λ x. x.path) (IsAdapter (length c.managers) (length c.servants)) (λ done x rule. rule.new) [] c.adapters a b rules.adapters is is'

  -- the entry of a path is the one that is found
  entry_found : (a : AdapterConf) (p : List (List ℕ)) → In a c.adapters → a.path ≡ p → entry_of c p ≡ Some a
  entry_found a p is at =
      elim (entry_of c p) as (λ o. entry_of c p ≡ o → o ≡ Some a) [
        | None ↦ λ none. absurd (find_none (λ x. same_path x.path p) a c.adapters none is (ap (λ q. same_path q p) at ∙ same_path_self p))
        | Some b ↦
            λ found.
            (let there = find_in (λ x. same_path x.path p) b c.adapters found in
            ap (λ x. Some x) (adapter_alone b a there.0 is (path_same b.path p there.1 ∙ sym at)))
      ] refl

  -- the policies of an object's home are those by which its entry was accepted, but for implicit activation
  pub home_is : (p : List (List ℕ)) (set : PolicySet) → IsHome c.adapters p set → (makes_ids (policies_at c p) ≡ is_system_id set.assignment)
      × (is_unique (policies_at c p) ≡ is_unique_id set.uniqueness)
  home_is [] set is = (ap (λ s. is_system_id s.assignment) (sym is), ap (λ s. is_unique_id s.uniqueness) (sym is))
  home_is (n ∷ ns) set is =
      let same : policies_at c (n ∷ ns) ≡ set =
      ap (λ o. (unwrap_or o (root_template None)).policies) (entry_found is.adapter (n ∷ ns) (entry_in c.adapters is.adapter is.stands) is.path_is)
      ∙ sym is.policies in
      (ap (λ s. makes_ids s) same, ap (λ s. is_unique s) same)

  -- such a home is created at the start
  pub home_boots : (p : List (List ℕ)) (set : PolicySet) → IsHome c.adapters p set → (p ≡ []) ⊎ IsBoot c.adapters p
  home_boots [] set is = inl refl
  home_boots (n ∷ ns) set is = inr (record { adapter = is.adapter; stands = is.stands; path_is = is.path_is; boots = is.boots })

  entry_makes : (a : AdapterConf) → In a c.adapters → is_implicit a.policies.implicit ≡ true → is_system_id a.policies.assignment ≡ true
  entry_makes a there implicit =
      let rule = (each_in (IsAdapter (length c.managers) (length c.servants)) [] c.adapters a rules.adapters there).1 in
      let kept =
      and_parts (needs is_implicit is_system_id a.policies.implicit a.policies.assignment)
      (needs is_implicit is_retain a.policies.implicit a.policies.retention) (rule.template.policies.keeps_rules ImplicitMakesIds) in
      elim (or_cases (not (is_implicit a.policies.implicit)) (is_system_id a.policies.assignment) kept.0)
      [ inl explicit ↦ absurd (false≢true (ap not (sym implicit) ∙ explicit)) | inr makes ↦ makes ]

  pub implicit_makes : ImplicitMakes c
  implicit_makes [] implicit = refl
  implicit_makes (x ∷ p) implicit =
      elim (entry_of c (x ∷ p)) as (λ o. entry_of c (x ∷ p) ≡ o → activates_implicitly (unwrap_or o (root_template None)).policies ≡ true
      → makes_ids (unwrap_or o (root_template None)).policies ≡ true) [
        | None ↦ λ none is. refl
        | Some a ↦ λ found is. entry_makes a (find_in (λ y. same_path y.path (x ∷ p)) a c.adapters found).0 is
      ] refl implicit
