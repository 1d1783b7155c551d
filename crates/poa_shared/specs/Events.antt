-- One call is one event of the one history.
use Rattle.std.specs.Prelude.{◌≡◌, ◌≢◌, ℕ, List, reverse, Option, Some, None, Result, Ok, Err}
use Rattle.std.specs.declared.alloc.AllocError.{AllocError}
use Rattle.poa_base.specs.Store.{Slots}
use Rattle.poa_base.specs.declared.Entry.{Entry}
use Rattle.seat_lock.specs.declared.view.View.{View}
use Rattle.poa_history.specs.declared.givens.Givens.{Givens}
use Rattle.poa_journal.specs.Journal.{journal_text, store_text}
use Rattle.poa_core.specs.Answers.{Collects, Steps}
use Rattle.poa_core.specs.Fits.{FitsItsCall}
use Rattle.poa_core.specs.Stored.{Stores}
use Rattle.poa_history.specs.Life.{Life, life_at}
use Rattle.poa_core.specs.declared.collected.Collected.{Collected}
use Rattle.poa_core.specs.declared.step_out.StepOut.{StepOut}
use Rattle.poa_history.specs.Phases.{phase_of}
use Rattle.poa_history.specs.declared.phase.Phase.TheVariants.{Running}
use Rattle.poa_shared.specs.Seen.{past, Turns}

-- the call found the run as it stood at some history that goes on from what the seat had seen, and did to it what P says
abbrev pub Event : (Life → Life → Type 0) → View Givens Entry → View Givens Entry → Type 0
Event P v w = (g : Givens) → v.givens ≡ Some g → (h : List Entry) × Turns g v h w × P (life_at g h) (life_at g (past w))

-- a connection is given its next reply, which fits its call
abbrev pub CollectsFitting : ℕ → Collected → Life → Life → Type 0
CollectsFitting conn result old new = Collects conn old result new × FitsItsCall old.history result

-- the text of the journal is given
abbrev pub PrintsJournal : Result (List ℕ) AllocError → Life → Life → Type 0
PrintsJournal (Ok text) old new = (new ≡ old)
    × (text ≡ journal_text (record { run = old.run; opening = old.opening; entries = reverse old.history }))
PrintsJournal (Err fault) old new = new ≡ old

-- the text of what is stored is given
abbrev pub PrintsStore : Result (List ℕ) AllocError → Life → Life → Type 0
PrintsStore (Ok text) old new = (new ≡ old) × ((slots : Slots) × Stores old slots × (text ≡ store_text slots))
PrintsStore (Err fault) old new = new ≡ old

-- a worker steps, as the run is running; or it isn't, and nothing is done
abbrev pub StepsRunning : ℕ → Life → Option (Result StepOut AllocError) → Life → Type 0
StepsRunning worker old (Some result) new = (phase_of old.history ≡ Running) × Steps worker old result new
StepsRunning worker old None new = (phase_of old.history ≢ Running) × (new ≡ old)
