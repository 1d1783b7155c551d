-- How serving ends that stopped: the words of the contracts inside of this crate.
use Rattle.std.specs.Prelude.{◌≡◌, ℕ, ◌<◌, List, ◌++◌, Option, Some, None, ⊤}
use Rattle.outside.specs.Told.{IfTold}
use Rattle.poad_files.specs.Delivery.{Hands}
use Rattle.session_laws.specs.HearingPieces.{Intake, KnowsFirst}
use Rattle.session_laws.specs.declared.peer.Peer.TheVariants.{Client}
use Rattle.poad_answer.specs.declared.end.End.{End}
use Rattle.poad_answer.specs.declared.end.End.TheVariants.{Read, Malformed, Full, Truncated, WriteFault, WantMemory}
use Rattle.poad_answer.specs.declared.stop.Stop.{Stop}
use Rattle.poad_answer.specs.declared.stop.Stop.TheVariants as stop
use Rattle.poad_answer.specs.Source.{is_written}
use Rattle.poad_answer.specs.Stop.{ClosesIn, last_words}

-- more bytes don't make it go on
abbrev pub IsOver : Stop → Type 0
IsOver (stop.Waits have) = ⊥
IsOver _ = ⊤

-- so many bytes wait, or it is over
abbrev pub WaitsSo : Option ℕ → Stop → Type 0
WaitsSo (Some have) why = why ≡ stop.Waits have
WaitsSo None why = IsOver why

-- it ends so
abbrev pub EndsSo : End → Stop → Type 0
EndsSo Read why = why ≡ stop.Closed
EndsSo (Malformed at) why = why ≡ stop.Refused at
EndsSo (Full calls bytes) why = why ≡ stop.Full calls bytes
EndsSo WriteFault why = ⊤
EndsSo WantMemory why = ⊤
EndsSo _ why = ⊥

-- the replies were written, and what stands behind them, or a front of it; or no memory was left to know its version
pub data Closes (end : End) (why : Stop) (input : Intake) (replies : List ℕ) (held_old held_new : Option (List ℕ)) : Type 0 where
  closes : (minor : ℕ) → ((text : List ℕ) → KnowsFirst Client input.ear text → ClosesIn why text minor)
      → IfTold held_old held_new (Hands (is_written end) (replies ++ last_words minor why)) → EndsSo end why
      → Closes end why input replies held_old held_new
  unknown : end ≡ WantMemory → held_new ≡ held_old → Closes end why input replies held_old held_new

-- how it ends at the end of the source: it says whether bytes belong to no message
abbrev pub EndsAt : End → ℕ → Type 0
EndsAt Read left_over = left_over ≡ 0
EndsAt (Truncated have) left_over = (have ≡ left_over) × (0 < have)
EndsAt _ left_over = ⊥
