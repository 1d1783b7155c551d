-- The next entry of a worker, and a step that fails.
use Rattle.std.specs.Prelude.{◌≡◌, ℕ, Result, Ok, Err, IsErr, true, false}
use Rattle.std.specs.declared.alloc.AllocError.{AllocError}
use Rattle.history_standing.specs.Stages.{stage, is_abandoned}
use Rattle.core_run.specs.ToCome.{only_ends}
use Rattle.poa_history.specs.Life.{Life}
pub use Rattle.core_run.proofs.NextTurn.{made}
use Rattle.poa_core.specs.Answers.{Steps}
use Rattle.poa_core.specs.declared.step_out.StepOut.{StepOut}

pub failed : (w : ℕ) (old new : Life) (r : Result StepOut AllocError) → IsErr r → is_abandoned old.history w ≡ false → only_ends (stage old.history w) ≡ false
    → new ≡ old → Steps w old r new
failed w old new (Err fault) is going more same = (going, more, same)
failed w old new (Ok out) is going more same = absurd (let x : false ≡ true = is in cc)
