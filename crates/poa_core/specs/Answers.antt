-- What each call of the core answers, and the entry that it makes.
use Rattle.std.specs.Prelude.{◌≡◌, ℕ, ◌≤◌, ◌<◌, Bool, true, false, ◌&&◌, ◌==◌, if◌then◌else◌, List, Some, None, Result, Ok, Err}
use Rattle.poa_base.specs.declared.Call.{Call}
use Rattle.poa_base.specs.declared.Entry.{Entry}
use Rattle.poa_base.specs.declared.Entry.TheVariants.{Entered, Arrive, Filled, Collect, Abandon}
use Rattle.poa_base.specs.declared.Point.{Point}
use Rattle.poa_base.specs.declared.Point.TheVariants.{Serving as ServingPoint, Incarnating as IncarnatingPoint, Trying as TryingPoint, Etherealizing, Free as FreePoint}
use Rattle.history_standing.specs.declared.stage.Stage.{Stage}
use Rattle.history_standing.specs.declared.stage.Stage.TheVariants.{Free, Trying, Incarnating, Serving, Ran, Removing}
use Rattle.history_standing.specs.Arrivals.{arrivals, arrived_bytes, call_of, connections}
use Rattle.poa_history.specs.Legal.{is_filled}
use Rattle.poa_history.specs.Replies.{next_reply, reply_of, owed}
use Rattle.history_standing.specs.Searches.{count_below}
use Rattle.history_standing.specs.Stages.{stage, is_unadmitted, is_abandoned}
use Rattle.poa_history.specs.Turns.{turn}
use Rattle.core_run.specs.ToCome.{only_ends}
use Rattle.poa_history.specs.Leaving.{is_shut, are_gone}
pub use Rattle.poa_history.specs.Limits.{is_taken, filled_at}
use Rattle.poa_history.specs.Heads.{head_of}
use Rattle.poa_history.specs.Life.{Life, with_entry, opened}
use Rattle.poa_core.specs.declared.enter_fault.EnterFault.{EnterFault}
use Rattle.poa_core.specs.declared.enter_fault.EnterFault.TheVariants as enter_fault
use Rattle.poa_core.specs.declared.arrive_fault.ArriveFault.{ArriveFault}
use Rattle.poa_core.specs.declared.arrive_fault.ArriveFault.TheVariants as arrive_fault
use Rattle.poa_core.specs.declared.step_out.StepOut.{StepOut}
use Rattle.poa_core.specs.declared.step_out.StepOut.TheVariants as step_out
use Rattle.poa_core.specs.declared.collected.Collected.{Collected}
use Rattle.poa_core.specs.declared.collected.Collected.TheVariants as collected
use Rattle.std.specs.declared.alloc.AllocError.{AllocError}

-- a connection enters, and gets the next number; a run has 4,000,000 at most
abbrev pub Enters : Life → Result ℕ EnterFault → Life → Type 0
Enters old (Ok conn) new = (conn ≡ connections old.history) × (conn < 4000000) × (new ≡ with_entry (Entered conn) old)
Enters old (Err (enter_fault.Limit conns calls bytes)) new =
    (4000000 ≤ connections old.history) × (conns ≡ connections old.history) × (calls ≡ arrivals old.history)
    × (bytes ≡ arrived_bytes old.history) × (new ≡ old)
Enters old (Err enter_fault.WantMemory) new = (connections old.history < 4000000) × (new ≡ old)

-- the first call that isn't taken fills the run
abbrev pub filled_by : ℕ → ℕ → Life → Life
filled_by conn size life = if is_filled life.history then life else with_entry (Filled conn size) life

-- a call arrives, and gets the next number
abbrev pub Arrives : ℕ → Call → ℕ → Life → Result ℕ ArriveFault → Life → Type 0
Arrives conn call size old (Ok r) new =
    (r ≡ arrivals old.history) × (is_taken old.limit old.history size call ≡ true) × (new ≡ with_entry (Arrive conn size call) old)
Arrives conn call size old (Err (arrive_fault.Limit calls bytes)) new =
    (is_taken old.limit old.history size call ≡ false) × (new ≡ filled_by conn size old) × (filled_at new.history ≡ Some (calls, bytes))
Arrives conn call size old (Err arrive_fault.WantMemory) new =
    (is_taken old.limit old.history size call ≡ true) × (new ≡ old)

-- what a worker is at between two of its turns
abbrev pub point_of : Stage → Point
point_of (Trying r) = TryingPoint r
point_of (Incarnating r n) = IncarnatingPoint r
point_of (Serving r) = ServingPoint r
point_of (Ran r) = ServingPoint r
point_of (Removing n) = Etherealizing n
point_of Free = FreePoint

abbrev pub unadmitted : List Entry → ℕ
unadmitted h = count_below (is_unadmitted h) (arrivals h)

-- nothing more can come: a `shutdown` was admitted, every connection but the first has left, and every call is admitted
abbrev pub is_run_over : List Entry → Bool
is_run_over h = is_shut h && (are_gone h (connections h) && (unadmitted h == 0))

-- a worker makes its next entry. Where it has only to end what it began, memory isn't wanting
abbrev pub Steps : ℕ → Life → Result StepOut AllocError → Life → Type 0
Steps w old (Ok step_out.Stopped) new = (is_abandoned old.history w ≡ true) × (new ≡ old)
Steps w old (Ok (step_out.Idle over)) new =
    (is_abandoned old.history w ≡ false) × (turn old.config old.run old.history w ≡ None) × (over ≡ is_run_over old.history) × (new ≡ old)
Steps w old (Ok (step_out.Did point)) new =
    (is_abandoned old.history w ≡ false) × (point ≡ point_of (stage new.history w))
    × ((e : Entry) × (turn old.config old.run old.history w ≡ Some e) × (new ≡ with_entry e old))
Steps w old (Err fault) new = (is_abandoned old.history w ≡ false) × (only_ends (stage old.history w) ≡ false) × (new ≡ old)

-- a connection is given its next reply
abbrev pub Collects : ℕ → Life → Collected → Life → Type 0
Collects conn old (collected.Reply r head reply) new =
    (next_reply old.config old.run old.history conn ≡ Some r) × (head ≡ head_of (call_of old.history r))
    × (reply_of old.config old.run (opened old) old.history r ≡ Some reply) × (new ≡ with_entry (Collect conn r) old)
Collects conn old (collected.Nothing owes) new =
    (next_reply old.config old.run old.history conn ≡ None) × (owes ≡ owed old.config old.run old.history conn) × (new ≡ old)

-- a worker gives the run up; one that did before changes nothing
abbrev pub Abandons : ℕ → Life → Life → Type 0
Abandons w old new = new ≡ (if is_abandoned old.history w then old else with_entry (Abandon w) old)
