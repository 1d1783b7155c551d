-- What the entry of an object keeps, as far as reading it tells: by what was noted before.
use Rattle.std.specs.Prelude.{◌≡◌, ℕ, ◌≤◌, length, true, List, [], ◌∷◌, Option, Some, None, IfSome, is_none, slice_get, ◌⊎◌}
use Rattle.std.specs.List.{list_all}
use Rattle.poa_base.specs.declared.AdapterConf.{AdapterConf}
use Rattle.poa_base.specs.declared.ObjectConf.{ObjectConf}
use Rattle.poa_base.specs.declared.PolicySet.{PolicySet}
use Rattle.poa_base.specs.Policies.{is_retain, is_system_id, is_multiple_id}
use Rattle.poa_policy.specs.Rules.{defaults}
use Rattle.text_words.specs.Name.{is_name}
use Rattle.text_words.specs.Path.{path_text}
use Rattle.conf_fields.specs.Numbers.{Find, IsNumber, seen_of}
use Rattle.conf_toml.specs.Objects.{id_text, servant_text, ids_of, taken_of}

-- an entry that is created at the start and has RETAIN, with its policies
pub record IsFit (entry : Option AdapterConf) (set : PolicySet) : Type 0 where
  pub adapter : AdapterConf
  pub is : entry ≡ Some adapter
  pub boots : adapter.boot ≡ true
  pub retains : is_retain adapter.policies.retention ≡ true
  pub policies : set ≡ adapter.policies

-- such an entry that was found by the text of its path
pub record IsFoundHome (find : Find) (adapters : List AdapterConf) (text : List ℕ) (set : PolicySet) : Type 0 where
  pub place : ℕ
  pub found : find text ≡ Some place
  pub fit : IsFit (slice_get adapters place) set

abbrev pub HomeFound : Find → List AdapterConf → List (List ℕ) → PolicySet → Type 0
HomeFound find adapters [] set = set ≡ defaults
HomeFound find adapters (n ∷ ns) set = IsFoundHome find adapters (path_text (n ∷ ns)) set

pub record IsRead (find : Find) (adapters : List AdapterConf) (servants ids taken : Find) (o : ObjectConf) : Type 0 where
  pub few : length o.adapter ≤ 16
  pub named : list_all is_name o.adapter ≡ true
  pub policies : PolicySet
  pub home : HomeFound find adapters o.adapter policies
  pub id : is_none o.oid ≡ is_system_id policies.assignment
  pub servant : IsNumber servants o.servant
  pub new : IfSome o.oid (λ id. ids (id_text (path_text o.adapter) id) ≡ None)
  pub alone : (is_multiple_id policies.uniqueness ≡ true) ⊎ (taken (servant_text (path_text o.adapter) o.servant) ≡ None)

-- after the entries before it
abbrev pub IsReadAfter : Find → List AdapterConf → Find → List ObjectConf → ObjectConf → Type 0
IsReadAfter find adapters servants done o = IsRead find adapters servants (seen_of (ids_of done)) (seen_of (taken_of done)) o
