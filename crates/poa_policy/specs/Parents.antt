-- Where an adapter that is created at the start stands: below the root, or below an earlier one of its kind.
use Rattle.std.specs.Prelude.{◌≡◌, ℕ, true, List, [], ◌∷◌, ◌++◌, ◌⊎◌}
use Rattle.poa_base.specs.declared.AdapterConf.{AdapterConf}
use Rattle.poa_policy.specs.Entries.{IsEntry}

-- an entry of this path that is created at the start
pub record IsBoot (adapters : List AdapterConf) (path : List (List ℕ)) : Type 0 where
  pub adapter : AdapterConf
  pub stands : IsEntry adapters adapter
  pub path_is : adapter.path ≡ path
  pub boots : adapter.boot ≡ true

-- the path is that of a child of the root, or of such an entry
pub record IsBelow (adapters : List AdapterConf) (path : List (List ℕ)) : Type 0 where
  pub parent : List (List ℕ)
  pub name : List ℕ
  pub child : path ≡ parent ++ name ∷ []
  pub stands : (parent ≡ []) ⊎ IsBoot adapters parent
