-- What each step tells its seat. A step speaks of the seat before and after, and of the number found.
use Rattle.std.specs.Prelude.{◌≡◌, ◌≢◌, ℕ, ◌+◌, ◌<◌, ◌≤◌, List, [], ◌∷◌, length, Option, Some}
use Rattle.atomic_table.specs.Table.{Me, Step}
use Rattle.seat_lock.specs.declared.view.View.{View}
use Rattle.seat_lock.specs.Histories.{times, In, IsPrefix, IsClosed, OwnsAll}
use Rattle.seat_lock.specs.Views.{drawn, turned_to, passed_on, settled}

module _ {T G E : Type 0} where
  -- the ticket is the number found
  abbrev pub drew : Step (Option T) → Me (Option T) (View G E) → ℕ → Me (Option T) (View G E) → Type 0
  drew st m n m' = m' ≡ (drawn m.0 n, m.1)

  -- nothing is told
  abbrev pub marked : Step (Option T) → Me (Option T) (View G E) → ℕ → Me (Option T) (View G E) → Type 0
  marked st m n m' = m' ≡ m

  -- after a join: nothing was made twice, and the shorter history begins the longer one
  abbrev pub learned : Step (Option T) → Me (Option T) (View G E) → ℕ → Me (Option T) (View G E) → Type 0
  learned st m n m' = (m' ≡ (settled m.0, m.1)) × ((x : ℕ) → times x m.0.mine ≤ 1)
      × (length m.0.kept ≤ length m.0.seen → IsPrefix m.0.kept m.0.seen)

module _ {E : Type 0} (owner : E → Option ℕ) where
  -- what a seat knows of a history that is the whole one: it begins with what was seen, and of each connection whose entering entry the
  -- seat made, the seat made every entry
  pub record Knows {G : Type 0} (v : View G E) (h : List E) : Type 0 where
    pub saw : IsPrefix v.seen h
    pub closed : IsClosed owner h v.mine
    pub owns : OwnsAll owner h v.mine
    pub within : (x : ℕ) → In x v.mine → x < length v.seen
    pub all_mine : v.room ≡ 1024 → (x : ℕ) → v.base ≤ x → x < length h → In x v.mine

module _ {T G E : Type 0} (givens : T → G) (history : T → List E) (owner : E → Option ℕ) where
  -- what a seat knows of the value that it takes
  abbrev pub Taken : View G E → T → Type 0
  Taken v x = (v.givens ≡ Some (givens x)) × Knows owner v (history x)

  -- the ticket n is served, and the seat has the value
  abbrev pub IsTurned : Me (Option T) (View G E) → ℕ → Me (Option T) (View G E) → Type 0
  IsTurned m n m' = (x : T) × (m' ≡ (turned_to m.0 n (history x), (0, Some x) ∷ m.1)) × Taken m.0 x

  -- it is the seat's turn exactly where its ticket is found
  abbrev pub looked : Step (Option T) → Me (Option T) (View G E) → ℕ → Me (Option T) (View G E) → Type 0
  looked st m n m' = (n ≡ m.0.ticket → IsTurned m n m') × (n ≢ m.0.ticket → m' ≡ m)

  -- the value is home, and the seat knows all of its history
  abbrev pub passed : Step (Option T) → Me (Option T) (View G E) → ℕ → Me (Option T) (View G E) → Type 0
  passed st m n m' = (x : T) × (m.1 ≡ (0, Some x) ∷ []) × (m' ≡ (passed_on m.0 (history x), []))
      × Knows owner (passed_on m.0 (history x)) (history x)

-- what a join tells: both had seen a beginning of what is now seen, and no entry was made by both
pub record Unites {G E : Type 0} (v w both : View G E) : Type 0 where
  pub first : IsPrefix v.seen both.seen
  pub second : IsPrefix w.seen both.seen
  pub apart : (x : ℕ) → times x v.mine + times x w.mine ≤ 1
