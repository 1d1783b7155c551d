-- What the entry of an object keeps.
use Rattle.std.specs.Prelude.{◌≡◌, ℕ, ◌<◌, true, List, [], ◌∷◌, Option, is_some, is_none, ◌⊎◌}
use Rattle.poa_base.specs.declared.AdapterConf.{AdapterConf}
use Rattle.poa_base.specs.declared.ObjectConf.{ObjectConf}
use Rattle.poa_base.specs.declared.PolicySet.{PolicySet}
use Rattle.poa_base.specs.Policies.{is_retain, is_system_id, is_multiple_id}
use Rattle.poa_policy.specs.Rules.{defaults}
use Rattle.poa_policy.specs.Entries.{IsNew, IsEntry}

-- an entry of this path with these policies, which is created at the start and has RETAIN
pub record IsRetaining (adapters : List AdapterConf) (path : List (List ℕ)) (set : PolicySet) : Type 0 where
  pub adapter : AdapterConf
  pub stands : IsEntry adapters adapter
  pub path_is : adapter.path ≡ path
  pub boots : adapter.boot ≡ true
  pub retains : is_retain adapter.policies.retention ≡ true
  pub policies : set ≡ adapter.policies

-- the home of an object: the root, whose policies are the defaults but for implicit activation, or such an entry
abbrev pub IsHome : List AdapterConf → List (List ℕ) → PolicySet → Type 0
IsHome adapters [] set = set ≡ defaults
IsHome adapters (n ∷ ns) set = IsRetaining adapters (n ∷ ns) set

-- by what an object is told from others: its adapter and its id, or its adapter and its servant
abbrev pub id_key : ObjectConf → List (List ℕ) × Option (List ℕ)
id_key o = (o.adapter, o.oid)

abbrev pub servant_key : ObjectConf → List (List ℕ) × ℕ
servant_key o = (o.adapter, o.servant)

-- with these adapters, so many servants, and these entries before it
pub record IsObject (adapters : List AdapterConf) (servants : ℕ) (done : List ObjectConf) (o : ObjectConf) : Type 0 where
  pub policies : PolicySet
  pub home : IsHome adapters o.adapter policies
  -- it has no id exactly where the adapter makes its ids
  pub id : is_none o.oid ≡ is_system_id policies.assignment
  pub servant : o.servant < servants
  -- of one id of one adapter there is one, and under UNIQUE_ID of one servant
  pub new : is_some o.oid ≡ true → IsNew id_key done o
  pub alone : (is_multiple_id policies.uniqueness ≡ true) ⊎ IsNew servant_key done o
