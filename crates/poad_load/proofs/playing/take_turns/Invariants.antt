use Rattle.poad_load.specs.Loading.{TakesTurns}
use Rattle.poad_load.specs.Played.{Played}
use Rattle.poad_load.proofs.playing.take_turns.Given as goal

-- so many turns were taken
abbrev pub invariant-loop-done : goal.invariant-loop-done
invariant-loop-done l = Played (TakesTurns l.done l.worker) l.fn.play l.play
