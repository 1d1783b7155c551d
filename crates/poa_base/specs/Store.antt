-- A store as a finite map: from an adapter's path and an object id to the state stored there, or to
-- none where that place is only reserved.
use Rattle.std.specs.Prelude.{ℕ, List, Option, None, Some, IsSome}
use Rattle.std.specs.List.{filter_map}
use Rattle.std.specs.Option.{option_map}
use Rattle.std.specs.Ordering.{nat_cmp, on, then_cmp}
use Rattle.std.specs.declared.cmp.Ordering.{Ordering}
use Rattle.std.specs.Cmp.Lexicographic.{slice_cmp}
use Rattle.std.specs.FinMap as finite
use Rattle.std.specs.FinMap.{FinMap}
use Rattle.poa_base.specs.declared.servant.State.{State}

-- where a state is stored: an adapter's path, and an object id
abbrev pub Place : Type 0
Place = List (List ℕ) × List ℕ

-- ids and names in byte order; paths as lists of names
abbrev pub oid_cmp : List ℕ → List ℕ → Ordering
oid_cmp = slice_cmp nat_cmp

abbrev pub path_cmp : List (List ℕ) → List (List ℕ) → Ordering
path_cmp = slice_cmp (slice_cmp nat_cmp)

-- places by path, and then by id
abbrev pub place_cmp : Place → Place → Ordering
place_cmp = then_cmp (on (λ k. k.0) path_cmp) (on (λ k. k.1) oid_cmp)

abbrev pub Slots : Type 0
Slots = FinMap place_cmp (Option State)

abbrev pub filled : Option (Option State) → Option State
filled None = None
filled (Some slot) = slot

-- the state stored at a path and id
abbrev pub stored : Slots → List (List ℕ) → List ℕ → Option State
stored slots path oid = filled (finite.get slots (path, oid))

-- the place has room for a state
abbrev pub IsReserved : Slots → List (List ℕ) → List ℕ → Type 0
IsReserved slots path oid = IsSome (finite.get slots (path, oid))

-- the slots with that place reserved, and the same states
abbrev pub with_room : Slots → List (List ℕ) → List ℕ → Slots
with_room slots path oid = finite.insert slots (path, oid) (stored slots path oid)

-- the slots with the state at that place
abbrev pub with_state : Slots → List (List ℕ) → List ℕ → State → Slots
with_state slots path oid state = finite.insert slots (path, oid) (Some state)

-- a state with its place
abbrev pub with_place : Place × Option State → Option (Place × State)
with_place e = option_map (λ state. (e.0, state)) e.1

-- the states with their places, in order
abbrev pub states : Slots → List (Place × State)
states slots = filter_map with_place (finite.entries slots)
