use Rattle.replay_run.proofs.Gathered.{still_givens}
use Rattle.poad_load.specs.Loading.{EntersFirst}
use Rattle.poad_load.specs.Played.{Played}
use Rattle.poad_load.proofs.Parts.{played_then}
use Rattle.poad_load.proofs.playing.enter.Given as goal

-- so many connections have entered
abbrev pub invariant-loop-place : goal.invariant-loop-place
invariant-loop-place l = Played (EntersFirst l.place) l.fn.play l.play
