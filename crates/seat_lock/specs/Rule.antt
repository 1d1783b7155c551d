-- The rule between any two steps of the lock. Word 0 is the number that is served, word 1 the next ticket; the slot has the value, or the
-- seat that has the turn does.
-- `line` is the seats that hold tickets, in their order. So each ticket is the served number and its place in line, and a step adds a seat
-- at the end or takes the first one away.
use Rattle.std.specs.Prelude.{◌≡◌, ℕ, ◌+◌, ◌%◌, ◌^◌, ◌<◌, ◌≤◌, List, [], ◌∷◌, length, Option, Some, slice_index}
use mathlib.Core.Option.{some, none}
use mathlib.Core.Option as maybe
use lib.ListN.{get_elem?}
use Rattle.atomic_table.specs.Table.{State}
use Rattle.seat_lock.specs.declared.view.Stage.{Stage}
use Rattle.seat_lock.specs.declared.view.Stage.TheVariants.{Idle, Waiting, Turn, Spent}
use Rattle.seat_lock.specs.declared.view.View.{View}
use Rattle.seat_lock.specs.Histories.{total, times, In, IsPrefix, IsClosed}
use Rattle.seat_lock.specs.Views.{in_use, holding, tickets, weight}

-- where the value is: in its slot, or out with a seat
pub data Place (T : Type 0) : Type 0 where
  home : T → Place T
  out : ℕ → Place T

abbrev pub homes_at : {T : Type 0} → Place T → List (maybe.Option (Option T))
homes_at (home x) = some (Some x) ∷ []
homes_at (out j) = none ∷ []

module _ {T G E : Type 0} (givens : T → G) (history : T → List E) (all : G) (log : List E) (views : List (View G E)) where
  -- the value stands for the one history, or the seat that has it keeps that history
  abbrev pub Holds : Place T → Type 0
  Holds (home x) = (history x ≡ log) × (givens x ≡ all)
  Holds (out j) = (v : View G E) × (get_elem? views j ≡ some v) × (v.stage ≡ Turn)

module _ {G E : Type 0} (served : ℕ) (views : List (View G E)) where
  -- the seat j holds the ticket at the place k in line
  abbrev pub Has : ℕ → ℕ → Type 0
  Has k j = (v : View G E) × (get_elem? views j ≡ some v) × (holding v.stage ≡ 1) × (v.ticket ≡ (served + k) % 2 ^ 64)

module _ {T G E : Type 0} (served : ℕ) (log : List E) (line : List ℕ) (place : Place T) (j : ℕ) (v : View G E) where
  -- what the stage of the seat j says of the rest
  abbrev pub Stands : Stage → Type 0
  Stands Idle = Unit {0}
  Stands Waiting = (k : ℕ) × (get_elem? line k ≡ some j) × (v.ticket ≡ (served + k) % 2 ^ 64)
  Stands Turn = (get_elem? line 0 ≡ some j) × (v.ticket ≡ served) × (place ≡ out j) × (v.kept ≡ log)
  Stands Spent = (v.seen ≡ []) × (v.mine ≡ []) × (v.room ≡ 0)

-- the seat j fits the one history
pub record Fits {T G E : Type 0} (owner : E → Option ℕ) (all : G) (base served : ℕ) (log : List E) (line : List ℕ) (place : Place T) (j : ℕ)
    (v : View G E) : Type 0 where
  pub stands : Stands served log line place j v v.stage
  pub saw : IsPrefix v.seen log
  pub keeps : IsPrefix v.kept log
  pub closed : IsClosed owner log v.mine
  pub within : (x : ℕ) → In x v.mine → x < length v.seen
  pub knows : in_use v.stage ≡ 1 → (v.givens ≡ Some all) × (v.base ≡ base)

-- `all` is what the first value was made with, and `base` the length of its history
pub record InOrder {T G E : Type 0} (givens : T → G) (history : T → List E) (owner : E → Option ℕ) (all : G) (base : ℕ)
    (s : State (Option T) (View G E)) : Type 0 where
  pub log : List E
  pub line : List ℕ
  pub place : Place T
  pub wide : 2 ≤ length s.words
  pub next_is : slice_index s.words 1 ≡ (slice_index s.words 0 + length line) % 2 ^ 64
  pub homes_are : s.homes ≡ homes_at place
  pub holds : Holds givens history all log s.views place
  pub in_line : (k j : ℕ) → get_elem? line k ≡ some j → Has (slice_index s.words 0) s.views k j
  pub counted : total tickets s.views ≡ length line
  pub whole : total weight s.views ≡ 1025
  pub grown : base ≤ length log
  pub old : (x : ℕ) → x < base → total (λ v. times x v.mine) s.views ≡ 0
  pub new : (x : ℕ) → base ≤ x → x < length log → total (λ v. times x v.mine) s.views ≡ 1
  pub future : (x : ℕ) → length log ≤ x → total (λ v. times x v.mine) s.views ≡ 0
  pub each : (j : ℕ) (v : View G E) → get_elem? s.views j ≡ some v → Fits owner all base (slice_index s.words 0) log line place j v
