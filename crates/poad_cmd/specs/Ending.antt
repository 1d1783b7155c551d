-- How a run ends: the first of want of memory, of a thread, a fault of the files, of a door, and the limit is told.
use Rattle.std.specs.Prelude.{◌≡◌, ℕ, Bool, true, false, ◌||◌, List, [], ◌∷◌, ◌⊎◌, Option, Some, None, Result, Ok, Err}
use Rattle.std.specs.declared.alloc.AllocError.{AllocError}
use Rattle.std.specs.Option.{is_some, option_or}
use Rattle.std.specs.Result.{is_err}
use Rattle.outside.specs.Cause.{Rose}
use Rattle.outside.specs.declared.keeping.Put.{Put}
use Rattle.outside.specs.declared.keeping.Put.TheVariants as put
use Rattle.poad_files.specs.declared.status.Status.{Status}
use Rattle.poad_files.specs.declared.status.Status.TheVariants.{Ok as Fine, WantMemory, NoThread, FileFault, ListenFault, Limit}
use Rattle.poa_history.specs.declared.full.Full.{Full}
use Rattle.serve_run.specs.Tours.{Tour}
use Rattle.serve_run.specs.declared.outcome.Outcome.{Outcome}
use Rattle.serve_run.specs.declared.outcome.Want.{Want}
use Rattle.serve_run.specs.declared.outcome.Want.TheVariants.{Memory, Thread}

-- a piece wasn't started for want of memory
abbrev pub is_for_memory : Option Want → Bool
is_for_memory None = false
is_for_memory (Some Memory) = true
is_for_memory (Some Thread) = false

-- memory was wanting for a piece of the run, or for its end
abbrev pub wants_memory : Outcome → Bool
wants_memory outcome = outcome.lost || is_for_memory outcome.short

-- a file couldn't be put
abbrev pub is_unput : Result Put AllocError → Bool
is_unput (Ok put.Failed) = true
is_unput (Ok put.Done) = false
is_unput (Err fault) = false

-- the status of a run that took all calls, or no more than so many
abbrev pub limit_at : Option Full → Status
limit_at None = Fine
limit_at (Some full) = Limit full.arrivals full.bytes

-- the status where memory was wanting, a piece wasn't started, a file couldn't be put, a door failed, or calls were refused
abbrev pub status_by : Bool → Bool → Bool → Bool → Option Full → Status
status_by true short unput failed full = WantMemory
status_by false true unput failed full = NoThread
status_by false false true failed full = FileFault
status_by false false false true full = ListenFault
status_by false false false false full = limit_at full

abbrev pub status_of : Outcome → Result Put AllocError → Option Full → Status
status_of outcome came filled =
    status_by (wants_memory outcome || is_err came) (is_some outcome.short) (is_unput came) outcome.failed
    (option_or filled outcome.refused)

-- the limit's numbers: those that stood when the run was filled, or else the least with which a connection couldn't enter
abbrev pub IsLimit : Option (ℕ × ℕ) → Option Full → ℕ → ℕ → Type 0
IsLimit (Some at) refused calls bytes = at ≡ (calls, bytes)
IsLimit None (Some full) calls bytes = (full.arrivals ≡ calls) × (full.bytes ≡ bytes)
IsLimit None None calls bytes = ⊥

module _ {A L : Type 0} (faults : A → ℕ) where
  -- one of the doors counted a fault
  abbrev pub AnyRose : List (Tour A L) → Type 0
  AnyRose [] = ⊥
  AnyRose (t ∷ more) = Rose (faults t.closed) (faults t.served) ⊎ AnyRose more

  -- none did
  abbrev pub EachSteady : List (Tour A L) → Type 0
  EachSteady [] = Unit {0}
  EachSteady (t ∷ more) = (faults t.served ≡ faults t.closed) × EachSteady more
