-- What a worker has done so far, while it goes on.
use Rattle.std.specs.Prelude.{◌≡◌, ℕ, true, None, Result, Ok, Err}
use Rattle.std.specs.declared.alloc.AllocError.{AllocError}
use Rattle.poa_base.specs.declared.Entry.{Entry}
use Rattle.poa_core.specs.Answers.{point_of}
use Rattle.history_standing.specs.Stages.{is_abandoned, stage}
use Rattle.poa_history.specs.Turns.{turn}
use Rattle.poa_history.specs.declared.givens.Givens.{Givens}
use Rattle.poa_history.specs.GivenRuns.{IsLog}
use Rattle.poa_history.specs.Owners.{owner_of}
use Rattle.poa_shared.specs.Seen.{past}
use Rattle.poa_shared.specs.declared.pause.Pause.{Pause}
use Rattle.poa_shared.specs.declared.pause.Pause.TheVariants as pause
use Rattle.history_laws.specs.Closing.{IsClosed}
use Rattle.poa_shared.specs.Making.{Makes}
use Rattle.poa_shared.specs.Worked.{IsTurnAt}
use Rattle.seat_lock.specs.declared.view.View.{View}
use Rattle.seat_lock.specs.Steps.{Knows}

-- between two views of its seat the worker made turns, and nothing else
abbrev pub MakesTurns : ℕ → View Givens Entry → View Givens Entry → Type 0
MakesTurns worker = Makes (λ log made place. IsTurnAt worker log place)

-- the seat has seen all, as it has after each call
pub record HasSeenAll (g : Givens) (v : View Givens Entry) : Type 0 where
  pub runs : IsLog g v.seen
  pub knows : Knows owner_of v v.seen

-- at a point the worker stands there; where it is idle, it has no next entry
abbrev pub IsPaused : Givens → ℕ → Result Pause AllocError → View Givens Entry → Type 0
IsPaused g worker (Ok (pause.At point)) v = HasSeenAll g v × (point ≡ point_of (stage (past v) worker))
IsPaused g worker (Ok pause.Later) v = Unit {0}
IsPaused g worker (Ok (pause.Idle over)) v =
    HasSeenAll g v × (turn g.config g.run (past v) worker ≡ None) × (over ≡ true → IsClosed g worker (past v))
IsPaused g worker (Ok pause.Stopped) v = HasSeenAll g v × (is_abandoned (past v) worker ≡ true)
IsPaused g worker (Err fault) v = Unit {0}

-- the worker made turns, and pauses for this cause
abbrev pub Pauses : Givens → ℕ → View Givens Entry → Result Pause AllocError → View Givens Entry → Type 0
Pauses g worker old result new = MakesTurns worker old new × IsPaused g worker result new
