-- The activations that were begun, as a table keeps them.
use Rattle.std.specs.Prelude.{◌≡◌, ℕ, ◌+◌, ◌<◌, ◌≤◌, Bool, true, false, not, ◌==◌, ◌&&◌, ◌||◌, cond, List, [], ◌∷◌, map, filter, length}
use Rattle.std.specs.List.Sorted.{IsStrictlySortedBy}
use Rattle.std.specs.BTreeMap.{BTreeMap}
use Rattle.std.specs.Map.{keys_of, values_of}
use Rattle.std.specs.Ordering.{nat_cmp}
use Rattle.history_standing.specs.declared.activation.Activation.{Activation}
use Rattle.poa_base.specs.declared.Sid.TheVariants.{Fresh, Named}
use Rattle.history_standing.specs.declared.activation.Phase.TheVariants.{Begun, Complete, Void}
use Rattle.history_standing.specs.Standings.{is_active, is_complete, is_of}
use Rattle.history_standing.specs.Trees.{In}
use Rattle.active_map.specs.ById.{Ids, numbers_of}

pub record Table : Type 0 where
  -- how many were begun, are over and are kept no longer
  pub forgotten : ℕ
  -- the others, in the order in which they were begun
  pub kept : List Activation

-- it is on its way in or out: still being incarnated, ending, out of the map, or void
abbrev pub is_moving : Activation → Bool
is_moving a = not (is_active a) || a.out

-- it is ending, and in the map
abbrev pub is_leaving : Activation → Bool
is_leaving a = a.ending && not a.out

-- it is on its way in or out, or over: it has no servant, or is out of the map
abbrev pub is_passing : Activation → Bool
is_passing a = not (is_complete a) || a.out

-- a servant that was made for an activation is its own
abbrev pub is_own : Activation → Bool
is_own a = elim a.phase [ Complete s ↦ elim s [ Fresh m ↦ m == a.number | Named j ↦ true ] | Begun ↦ true | Void ↦ true ]

-- it has the servant that was made for it
abbrev pub has_own : Activation → Bool
has_own a = elim a.phase [ Complete s ↦ elim s [ Fresh m ↦ m == a.number | Named j ↦ false ] | Begun ↦ false | Void ↦ false ]

-- as one that moves counts
abbrev pub weight : Activation → ℕ
weight a = cond (is_moving a) 1 0

-- the rows, each activation changed
abbrev pub with_each : (Activation → Activation) → List (ℕ × Activation) → List (ℕ × Activation)
with_each f rows = map (λ row. (row.0, f row.1)) rows

-- each stands under its number
abbrev pub IsKeyed : List (ℕ × Activation) → Type 0
IsKeyed [] = Unit {0}
IsKeyed (row ∷ rows) = (row.1.number ≡ row.0) × IsKeyed rows

-- the rows, in the order of their numbers, which are less than that of the next; and how many of them move
pub record IsTable (forgotten moving : ℕ) (rows : List (ℕ × Activation)) : Type 0 where
  pub keyed : IsKeyed rows
  pub ordered : IsStrictlySortedBy nat_cmp (keys_of rows)
  pub earlier : (n : ℕ) → In n (keys_of rows) → n < forgotten + length rows
  pub few : forgotten + length rows ≤ 4294967296
  pub counted : moving ≡ length (filter is_moving (values_of rows))

-- the index has of each id the numbers of its activations, in their order
abbrev pub IsIndexed : BTreeMap ℕ Ids → List Activation → Type 0
IsIndexed ids activations = (k : ℕ) (oid : List ℕ) → numbers_of ids k oid ≡ map (λ a. a.number) (filter (is_of k oid) activations)

-- the number of each that passes the test is here; there may be others
abbrev pub CoversOf : (Activation → Bool) → List ℕ → List Activation → Type 0
CoversOf test numbers activations = (a : Activation) → In a activations → test a ≡ true → In a.number numbers

-- the number of each that is leaving is here
abbrev pub Covers : List ℕ → List Activation → Type 0
Covers numbers activations = CoversOf is_leaving numbers activations

-- a change leaves what an activation is found by
pub record Keeps (f : Activation → Activation) : Type 0 where
  pub number : (a : Activation) → (f a).number ≡ a.number
  pub adapter : (a : Activation) → (f a).adapter ≡ a.adapter
  pub oid : (a : Activation) → (f a).oid ≡ a.oid
