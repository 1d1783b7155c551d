-- How a crew's count of faults tells a want of threads.
use Rattle.std.specs.Prelude.{◌≡◌, ℕ, Option, Some}
use Rattle.outside.specs.Cause.{Rose}
use Rattle.serve_run.specs.declared.outcome.Want.{Want}
use Rattle.serve_run.specs.declared.outcome.Want.TheVariants.{Thread}

-- where a piece wasn't started for want of a thread, the count rose; else it stayed
pub record CountsThreads (before now : ℕ) (short : Option Want) : Type 0 where
  pub rose : short ≡ Some Thread → Rose before now
  pub steady : (short ≡ Some Thread → ⊥) → now ≡ before
