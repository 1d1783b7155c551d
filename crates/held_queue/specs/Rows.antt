-- Rows of calls that are held alike.
use Rattle.std.specs.Prelude.{◌≡◌, ℕ, zero, suc, ◌≤◌, ◌==◌, Bool, true, false, if◌then◌else◌, List, [], ◌∷◌, ◌⊎◌}
use Rattle.std.specs.List.{list_any}
use Rattle.history_standing.specs.declared.flight.Flight.{Flight}
use Rattle.history_standing.specs.Standings.{is_running}
use Rattle.held_queue.specs.declared.freed.Freed.{Freed}
use Rattle.held_queue.specs.declared.hold.Hold.{Hold}
use Rattle.held_queue.specs.declared.hold.Hold.TheVariants.{Main, Turn as HeldTurn}
use Rattle.held_queue.specs.Frees.{frees}
use Rattle.held_queue.specs.Numbers.{Heap, has}
use Rattle.held_queue.specs.declared.grip.Grip.{Grip}
use Rattle.held_queue.specs.declared.grip.Grip.TheVariants.{Held, Turn, Loose}
use Rattle.held_queue.specs.declared.row.Row.{Row}

-- what held a call ended: a request that takes its turn may take it, all else is to be asked
abbrev pub let_go : Hold → Grip
let_go (HeldTurn k) = Turn k
let_go hold = Loose

-- how a row is held once something was freed
abbrev pub freed_grip : Freed → Grip → Grip
freed_grip f (Held hold) = if frees f hold then (if f.all then Loose else let_go hold) else Held hold
freed_grip f (Turn k) = if f.all then Loose else Turn k
freed_grip f Loose = Loose

abbrev pub freed_row : Freed → Row → Row
freed_row f row = record row { grip = freed_grip f row.grip }

-- the turn is taken where a request is in flight in the adapter
abbrev pub settled_grip : List Flight → Grip → Grip
settled_grip fs (Turn k) = if is_running fs k then Held (HeldTurn k) else Turn k
settled_grip fs grip = grip

-- whether the worker asks the first call of a row: the first worker asks those that are for it
abbrev pub is_asked : Grip → ℕ → Bool
is_asked (Held Main) w = w == 0
is_asked (Held hold) w = false
is_asked grip w = true

-- the call is in one of the rows
abbrev pub in_rows : List Row → ℕ → Bool
in_rows rows r = list_any (λ row. has row.calls.heap r) rows

-- of the row's calls the worker asks none, or one that isn't behind it is ready
abbrev pub IsSettledRow : ℕ → Heap → Row → Type 0
IsSettledRow w ready row = (is_asked row.grip w ≡ false)
    ⊎ ((r : ℕ) → has row.calls.heap r ≡ true → (q : ℕ) × (has ready q ≡ true) × (q ≤ r))

-- numbers go over from one to the other, the least first
pub record GoesOver (from from' to to' : Heap) : Type 0 where
  pub all : (r : ℕ) → has from r ≡ true → (has from' r ≡ true) ⊎ (has to' r ≡ true)
  pub fewer : (r : ℕ) → has from' r ≡ true → has from r ≡ true
  pub more : (r : ℕ) → has to r ≡ true → has to' r ≡ true
  pub comes : (r : ℕ) → has to' r ≡ true → (has to r ≡ true) ⊎ ((has from r ≡ true) × ((q : ℕ) → has from q ≡ true → r ≤ q))

-- the row has no calls
abbrev pub is_empty_row : Row → Type 0
is_empty_row row = (r : ℕ) → has row.calls.heap r ≡ false

-- the row at a place is held so
abbrev pub regripped : ℕ → Grip → List Row → List Row
regripped i grip [] = []
regripped zero grip (row ∷ rows) = record row { grip = grip } ∷ rows
regripped (suc i) grip (row ∷ rows) = row ∷ regripped i grip rows
