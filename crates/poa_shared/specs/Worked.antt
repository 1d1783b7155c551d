-- What a worker did on a shared core, read on its seat. A place is an index into the journal.
use Rattle.std.specs.Prelude.{◌≡◌, ℕ, ◌≤◌, true, List, Some, ◌⊎◌}
use mathlib.Core.Option.{some}
use lib.ListN.{get_elem?}
use Rattle.poa_base.specs.declared.Entry.{Entry}
use Rattle.poa_base.specs.declared.Entry.TheVariants.{Abandon}
use Rattle.history_standing.specs.Stages.{is_abandoned}
use Rattle.history_laws.specs.Closing.{IsClosed}
use Rattle.poa_history.specs.declared.givens.Givens.{Givens}
use Rattle.poa_history.specs.GivenRuns.{IsLog}
use Rattle.poa_history.specs.Owners.{owner_of, worker_of}
use Rattle.poa_shared.specs.Seen.{past}
use Rattle.poa_shared.specs.Making.{Makes}
use Rattle.poa_shared.specs.declared.work_end.WorkEnd.{WorkEnd}
use Rattle.poa_shared.specs.declared.work_end.WorkEnd.TheVariants.{Closed, Stopped, WantMemory}
use Rattle.seat_lock.specs.declared.view.View.{View}
use Rattle.seat_lock.specs.Histories.{In}
use Rattle.seat_lock.specs.Steps.{Knows}

-- at this place stands an entry of the worker that isn't its Abandon; in a legal journal that is the worker's next turn there
pub record IsTurnAt (worker : ℕ) (log : List Entry) (place : ℕ) : Type 0 where
  pub entry : Entry
  pub stands : get_elem? log place ≡ some entry
  pub own : worker_of entry ≡ Some worker
  pub going : entry ≡ Abandon worker → ⊥

-- at this place the worker gave the run up, and of these places it is the last
pub record IsGivenUpAt (worker : ℕ) (log : List Entry) (made : List ℕ) (place : ℕ) : Type 0 where
  pub stands : get_elem? log place ≡ some (Abandon worker)
  pub last : (other : ℕ) → In other made → other ≤ place

-- a worker makes its turns; where one of them finds no memory, it gives the run up last
abbrev pub IsMadeAt : WorkEnd → ℕ → List Entry → List ℕ → ℕ → Type 0
IsMadeAt WantMemory worker log made place = IsTurnAt worker log place ⊎ IsGivenUpAt worker log made place
IsMadeAt end worker log made place = IsTurnAt worker log place

-- the cause of each end
abbrev pub HasCause : WorkEnd → Givens → ℕ → List Entry → Type 0
HasCause Closed g worker h = IsClosed g worker h
HasCause (Stopped named) g worker h = (named ≡ worker) × (is_abandoned h worker ≡ true)
HasCause WantMemory g worker h = is_abandoned h worker ≡ true

-- what `work` did between two views of its seat
pub record Worked (g : Givens) (worker : ℕ) (old new : View Givens Entry) (end : WorkEnd) : Type 0 where
  pub makes : Makes (IsMadeAt end worker) old new
  pub runs : IsLog g new.seen
  pub knows : Knows owner_of new new.seen
  pub cause : HasCause end g worker (past new)
