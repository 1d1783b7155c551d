-- How a store is kept: a shelf for each path, with the ids on it.
use Rattle.std.specs.Prelude.{ℕ, List, [], ◌∷◌, Option, None, Some}
use Rattle.std.specs.List.{AllByRecursion}
use Rattle.std.specs.List.Sorted.{IsStrictlySortedBy}
use Rattle.std.specs.Map.{keys_of, lookup}
use Rattle.std.specs.FinMap as finite
use Rattle.std.specs.BTreeMap.{BTreeMap, is_at}
use Rattle.poa_base.specs.declared.servant.State.{State}
use Rattle.poa_base.specs.Store.{Place, Slots, oid_cmp, path_cmp}

abbrev pub Shelf : Type 0
Shelf = BTreeMap (List ℕ) (Option State)

abbrev pub Shelves : Type 0
Shelves = List (List (List ℕ) × Shelf)

-- the slots of one shelf with their places, before more of them
abbrev pub placed : {P I X : Type 0} → P → List (I × X) → List ((P × I) × X) → List ((P × I) × X)
placed path [] more = more
placed path (slot ∷ slots) more = ((path, slot.0), slot.1) ∷ placed path slots more

-- the slots of all shelves with their places
abbrev pub flat : Shelves → List (Place × Option State)
flat [] = []
flat (shelf ∷ more) = placed shelf.0 shelf.1.entries (flat more)

abbrev pub slots_of : Shelves → Slots
slots_of shelves = finite.from_entries (flat shelves)

-- what a shelf that may be missing has at an id
abbrev pub on_shelf : Option Shelf → List ℕ → Option (Option State)
on_shelf None oid = None
on_shelf (Some shelf) oid = lookup (is_at (oid_cmp oid)) shelf.entries

abbrev pub IsInOrder : Shelf → Type 0
IsInOrder shelf = IsStrictlySortedBy oid_cmp (keys_of shelf.entries)

-- the paths ascend, and on each shelf the ids
pub record IsShelved (shelves : Shelves) : Type 0 where
  pub paths : IsStrictlySortedBy path_cmp (keys_of shelves)
  pub ids : AllByRecursion (λ shelf. IsInOrder shelf.1) shelves
