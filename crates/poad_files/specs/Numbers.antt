-- The numbers of the transient adapters that stand when the server starts.
use Rattle.std.specs.Prelude.{ℕ, suc, if◌then◌else◌, List, [], ◌∷◌, Option, Some, None}
use Rattle.std.specs.BTreeMap.{is_at}
use Rattle.poa_base.specs.declared.AdapterConf.{AdapterConf}
use Rattle.poa_base.specs.Policies.{is_persistent}
use Rattle.poa_base.specs.Store.{path_cmp}

-- the number at a path, if a transient adapter stands there
abbrev pub Numbers : Type 0
Numbers = List (List ℕ) → Option ℕ

abbrev pub with_number : List (List ℕ) → ℕ → Numbers → Numbers
with_number p n numbers q = if is_at (path_cmp p) q then Some n else numbers q

abbrev pub with_adapter : AdapterConf → ℕ → Numbers → Numbers
with_adapter a n numbers = if is_persistent a.policies.lifespan then numbers else with_number a.path n numbers

-- the adapters that are created at the start have the next numbers in their order, persistent ones too
abbrev pub numbered : Numbers → ℕ → List AdapterConf → Numbers
numbered numbers next [] = numbers
numbered numbers next (a ∷ as') = if a.boot then numbered (with_adapter a next numbers) (suc next) as' else numbered numbers next as'

abbrev pub no_numbers : Numbers
no_numbers q = None

-- the root is transient, and has the number 0
abbrev pub numbers_of : List AdapterConf → Numbers
numbers_of adapters = numbered (with_number [] 0 no_numbers) 1 adapters
