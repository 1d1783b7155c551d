-- What the entry of an adapter keeps.
use Rattle.std.specs.Prelude.{◌≡◌, ℕ, ◌≤◌, ◌<◌, true, List, [], length, IfSome, ◌⊎◌, ⊤}
use Rattle.std.specs.List.{AllByRecursion, list_all}
use Rattle.poa_base.specs.declared.AdapterConf.{AdapterConf}
use Rattle.poa_base.specs.declared.Endpoint.{Endpoint}
use Rattle.poa_base.specs.declared.Gives.{Gives}
use Rattle.poa_base.specs.declared.Gives.TheVariants as gives
use Rattle.poa_base.specs.declared.PolicySet.{PolicySet}
use Rattle.poa_base.specs.declared.RuleConf.{RuleConf}
use Rattle.poa_base.specs.Policies.{is_retain, is_default_servant, is_servant_manager}
use Rattle.poa_policy.specs.Kinds.{IsSet}
use Rattle.poa_policy.specs.Rules.{keeps}
use Rattle.poa_policy.specs.declared.rule.Rule.{Rule}
use Rattle.text_words.specs.Name.{is_name, is_host}
use Rattle.poa_policy.specs.Entries.{IsNew}
use Rattle.poa_policy.specs.Parents.{IsBelow}

-- each policy is of its kind, and they keep the three rules (CORBA 3.3 Part 1, chapter 15, "POA Policy Objects")
pub record AreTogether (set : PolicySet) : Type 0 where
  pub is_set : IsSet set
  pub keeps_rules : (r : Rule) → keeps r set ≡ true

abbrev pub IsEndpoint : Endpoint → Type 0
IsEndpoint e = (is_host e.host ≡ true) × (1 ≤ e.port)

-- what a rule gives: a new servant only with RETAIN, and only a servant that there is
abbrev pub GivesWithin : (ℕ → Type 0) → PolicySet → Gives → Type 0
GivesWithin IsServant set (gives.Fresh kind) = is_retain set.retention ≡ true
GivesWithin IsServant set (gives.Servant n) = IsServant n
GivesWithin IsServant set (gives.Forward e) = IsEndpoint e
GivesWithin IsServant set (gives.Raise e) = ⊤

-- rules stand only with USE_SERVANT_MANAGER
pub record AreRules (IsServant : ℕ → Type 0) (set : PolicySet) (rules : List RuleConf) : Type 0 where
  pub managed : (is_servant_manager set.processing ≡ true) ⊎ (rules ≡ [])
  pub each : AllByRecursion (λ r. GivesWithin IsServant set r.gives) rules

-- a default servant stands only with USE_DEFAULT_SERVANT
abbrev pub IsPreset : (ℕ → Type 0) → PolicySet → ℕ → Type 0
IsPreset IsServant set n = (is_default_servant set.processing ≡ true) × IsServant n

-- what an adapter is created from names only managers and servants that there are
pub record IsTemplate (IsManager IsServant : ℕ → Type 0) (a : AdapterConf) : Type 0 where
  pub policies : AreTogether a.policies
  pub manager : IsManager a.manager
  pub preset : IfSome a.preset (IsPreset IsServant a.policies)
  pub rules : AreRules IsServant a.policies a.rules

-- with so many configured managers, beside `root`, and servants, and these entries before it
pub record IsAdapter (managers servants : ℕ) (done : List AdapterConf) (a : AdapterConf) : Type 0 where
  pub few : length a.path ≤ 16
  pub named : list_all is_name a.path ≡ true
  pub new : IsNew (λ x. x.path) done a
  pub boot : a.boot ≡ true → IsBelow done a.path
  pub template : IsTemplate (λ n. n ≤ managers) (λ n. n < servants) a
