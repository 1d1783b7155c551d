-- A call that comes leaves the givens of the run, and who is there, as they are.
use Rattle.std.proofs.Common.{ℕ, ◌<◌, Bool, true, false, Ok, Err, Result, refl, sym, ◌∙◌, subst, if◌then◌else◌, arith}
use Rattle.poa_base.specs.declared.Call.{Call}
use Rattle.poa_base.specs.declared.Entry.TheVariants.{Arrive, Filled}
use Rattle.history_standing.specs.Arrivals.{connections}
use Rattle.poa_history.specs.Legal.{is_filled, IsOpen}
use Rattle.poa_history.specs.Life.{Life, with_entry}
use Rattle.poa_core.specs.declared.ArriveFault.{ArriveFault}
use Rattle.poa_core.specs.declared.ArriveFault.TheVariants as arrive_fault
use Rattle.poa_core.specs.Answers.{filled_by, is_taken, Arrives}
use Rattle.replay_run.specs.Calling.{after_call}
use Rattle.replay_run.proofs.Same.{Same, same_life}

-- a call changes neither the givens nor who is there
same_filled : (b : Bool) (conn size : ℕ) (life : Life) → Same life (if b then life else with_entry (Filled conn size) life)
same_filled true conn size life = same_life life
same_filled false conn size life = record { config = refl; run = refl; limit = refl; opening = refl; entered = refl; left = λ n. refl; going = λ w. refl }

same_taken : (b : Bool) (conn : ℕ) (call : Call) (size : ℕ) (life : Life)
    → Same life (if b then with_entry (Arrive conn size call) life else filled_by conn size life)
same_taken true conn call size life = record { config = refl; run = refl; limit = refl; opening = refl; entered = refl; left = λ n. refl; going = λ w. refl }
same_taken false conn call size life = same_filled (is_filled life.history) conn size life

pub same_call : (conn : ℕ) (call : Call) (size : ℕ) (life : Life) → Same life (after_call conn call size life)
same_call conn call size life = same_taken (is_taken life.limit life.history size call) conn call size life

-- a connection that is open stays so where none leaves
pub open_still : (conn : ℕ) (old new : Life) → Same old new → IsOpen old.history conn → IsOpen new.history conn
open_still conn old new s is = record {
  entered = (let less : conn < connections old.history = is.entered in omega (arith, s.entered, less));
  staying = s.left conn ∙ is.staying;
}

pub same_arrived : (conn : ℕ) (call : Call) (size : ℕ) (old new : Life) (answer : Result ℕ ArriveFault) → Arrives conn call size old answer new → Same old new
same_arrived conn call size old new (Ok r) a =
    subst (λ (l : Life). Same old l) (sym a.2)
    (record { config = refl; run = refl; limit = refl; opening = refl; entered = refl; left = λ n. refl; going = λ w. refl })
same_arrived conn call size old new (Err (arrive_fault.Limit calls bytes)) a =
    subst (λ (l : Life). Same old l) (sym a.1) (same_filled (is_filled old.history) conn size old)
same_arrived conn call size old new (Err arrive_fault.WantMemory) a = subst (λ (l : Life). Same old l) (sym a.1) (same_life old)
