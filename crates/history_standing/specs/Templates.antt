-- What the configuration says of an adapter, a manager and a servant.
use Rattle.std.specs.Prelude.{ℕ, suc, Bool, true, false, ◌&&◌, not, ◌==◌, if◌then◌else◌, List, [], ◌∷◌, Option, Some, None, option_map, option_and_then, unwrap_or, find, position, slice_get, codes}
use Rattle.poa_base.specs.declared.Config.{Config}
use Rattle.poa_base.specs.declared.AdapterConf.{AdapterConf}
use Rattle.poa_base.specs.declared.RuleConf.{RuleConf}
use Rattle.poa_base.specs.declared.Children.{Children}
use Rattle.poa_base.specs.declared.Policy.TheVariants.{OrbCtrl, Transient, UniqueId, SystemId, Implicit, Retain, MapOnly}
use Rattle.poa_base.specs.declared.PolicySet.{PolicySet}
use Rattle.poa_base.specs.Policies.{is_retain, is_unique_id, is_system_id, is_implicit, is_default_servant, is_servant_manager, is_persistent}
use Rattle.history_standing.specs.Paths.{same_bytes, same_path}

-- the policies of the root: the defaults, but implicit activation (CORBA 3.3 Part 1, section 15.3.9)
abbrev pub root_policies : PolicySet
root_policies =
    record {
      thread = OrbCtrl;
      lifespan = Transient;
      uniqueness = UniqueId;
      assignment = SystemId;
      implicit = Implicit;
      retention = Retain;
      processing = MapOnly;
    }

-- the configured entry of a path
abbrev pub entry_of : Config → List (List ℕ) → Option AdapterConf
entry_of c p = find (λ a. same_path a.path p) c.adapters

-- the root's template; only its adapter activator is configured
abbrev pub root_template : Option Children → AdapterConf
root_template children =
    record { path = []; policies = root_policies; manager = 0; boot = true; children = children; preset = None; rules = []; tag = 0; old_keys = true }

-- from which an adapter of this path is created
abbrev pub template : Config → List (List ℕ) → Option AdapterConf
template c [] = Some (root_template (option_and_then (λ a. a.children) (entry_of c [])))
template c (x ∷ p) = entry_of c (x ∷ p)

-- each of these is asked for paths with a template alone; else it says what the root's template does
abbrev pub template_or_root : Config → List (List ℕ) → AdapterConf
template_or_root c p = unwrap_or (template c p) (root_template None)

abbrev pub policies_at : Config → List (List ℕ) → PolicySet
policies_at c p = (template_or_root c p).policies

abbrev pub manager_at : Config → List (List ℕ) → ℕ
manager_at c p = (template_or_root c p).manager

abbrev pub rules_at : Config → List (List ℕ) → List RuleConf
rules_at c p = (template_or_root c p).rules

-- the tag that persistent references of the path carry; 0 where they carry none
abbrev pub tag_at : Config → List (List ℕ) → ℕ
tag_at c p = (template_or_root c p).tag

-- a persistent key's tag is another than the template's, and the key is no old one, without a tag, that the template still serves
abbrev pub is_other_tag : AdapterConf → ℕ → Bool
is_other_tag a tag = not (tag == a.tag) && not ((tag == 0) && a.old_keys)

abbrev pub retains : PolicySet → Bool
retains p = is_retain p.retention

abbrev pub is_unique : PolicySet → Bool
is_unique p = is_unique_id p.uniqueness

abbrev pub makes_ids : PolicySet → Bool
makes_ids p = is_system_id p.assignment

abbrev pub activates_implicitly : PolicySet → Bool
activates_implicitly p = is_implicit p.implicit

abbrev pub uses_default_servant : PolicySet → Bool
uses_default_servant p = is_default_servant p.processing

abbrev pub uses_servant_manager : PolicySet → Bool
uses_servant_manager p = is_servant_manager p.processing

abbrev pub lasts : PolicySet → Bool
lasts p = is_persistent p.lifespan

-- the adapter has a servant activator (CORBA 3.3 Part 1, section 15.3.6)
abbrev pub has_activator : Config → List (List ℕ) → Bool
has_activator c p =
    retains (policies_at c p) && uses_servant_manager (policies_at c p) && (elim (rules_at c p) [ [] ↦ false | _ ∷ _ ↦ true ])

-- the number of a manager: 0 is `root`, and the configured ones follow
abbrev pub manager_number : Config → List ℕ → Option ℕ
manager_number c name =
    if same_bytes name (codes "root") then Some 0 else option_map suc (position (λ m. same_bytes m.name name) c.managers)

-- the number of a servant is its place in the configuration
abbrev pub servant_number : Config → List ℕ → Option ℕ
servant_number c name = position (λ s. same_bytes s.name name) c.servants

abbrev pub servant_name : Config → ℕ → Option (List ℕ)
servant_name c k = option_map (λ s. s.name) (slice_get c.servants k)
