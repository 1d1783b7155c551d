-- Numbers by adapter and object id.
use Rattle.std.specs.Prelude.{◌≡◌, ℕ, List, [], Some, None}
use Rattle.std.specs.BTreeMap.{BTreeMap, get, get_by}
use Rattle.std.specs.Global.{Vec}
use Rattle.std.specs.Cmp.Lexicographic.{slice_cmp}
use Rattle.std.specs.Ordering.{nat_cmp}

abbrev pub Ids : Type 0
Ids = BTreeMap (Vec ℕ) (Vec ℕ)

-- the numbers of an id
abbrev pub numbers_in : Ids → List ℕ → List ℕ
numbers_in ids oid = elim (get_by (λ key. slice_cmp nat_cmp oid key.items) ids) [ None ↦ [] | Some numbers ↦ numbers.items ]

-- the numbers of an id of an adapter
abbrev pub numbers_of : BTreeMap ℕ Ids → ℕ → List ℕ → List ℕ
numbers_of index k oid = elim (get nat_cmp index k) [ None ↦ [] | Some ids ↦ numbers_in ids oid ]

-- the id has these numbers, and each other one has what it had
pub record IsWithin (oid numbers : List ℕ) (old new : Ids) : Type 0 where
  pub at : numbers_in new oid ≡ numbers
  pub others : (other : List ℕ) → (other ≡ oid → ⊥) → numbers_in new other ≡ numbers_in old other

pub record IsAt (k : ℕ) (oid numbers : List ℕ) (old new : BTreeMap ℕ Ids) : Type 0 where
  pub at : numbers_of new k oid ≡ numbers
  pub others : (other : ℕ) (id : List ℕ) → ((other ≡ k) × (id ≡ oid) → ⊥) → numbers_of new other id ≡ numbers_of old other id
