-- Whose the entries are that a seat made. A place is an index into the journal.
use Rattle.std.specs.Prelude.{◌≡◌, ℕ, ◌≤◌, ◌<◌, List, length, Some, ◌⊎◌}
use mathlib.Core.Option.{some}
use lib.ListN.{get_elem?}
use Rattle.poa_base.specs.declared.Entry.{Entry}
use Rattle.poa_history.specs.declared.givens.Givens.{Givens}
use Rattle.poa_history.specs.Owners.{owner_of, worker_of}
use Rattle.poa_shared.specs.Seen.{Owns}
use Rattle.seat_lock.specs.declared.view.View.{View}
use Rattle.seat_lock.specs.Histories.{times, In, IsClosed}

-- the entry is one of these connections
abbrev pub IsOfConns : List ℕ → Entry → Type 0
IsOfConns conns e = (c : ℕ) × In c conns × (owner_of e ≡ Some c)

-- the entry is one of these workers
abbrev pub IsOfWorkers : List ℕ → Entry → Type 0
IsOfWorkers workers e = (w : ℕ) × In w workers × (worker_of e ≡ Some w)

-- the entry at this place is one of these connections, or of these workers
pub record IsExplained (conns workers : List ℕ) (log : List Entry) (place : ℕ) : Type 0 where
  pub entry : Entry
  pub stands : get_elem? log place ≡ some entry
  pub of : IsOfConns conns entry ⊎ IsOfWorkers workers entry

-- the seat made entries of these connections, each of which entered by it, and of these workers, and no others
pub record Ledger (conns workers : List ℕ) (v : View Givens Entry) : Type 0 where
  pub explained : (place : ℕ) → In place v.mine → IsExplained conns workers v.seen place
  pub closed : IsClosed owner_of v.seen v.mine
  pub within : (place : ℕ) → In place v.mine → place < length v.seen
  pub owned : (c : ℕ) → In c conns → Owns v c
  pub once : (c : ℕ) → times c conns ≤ 1
