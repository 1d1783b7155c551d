use Rattle.std.proofs.Common.{◌≡◌, ◌≤◌, ◌+◌}
use Rattle.poad_load.specs.Schedule.{next_id, number_behind}
use Rattle.poad_load.specs.Loading.{PlaysDraws}
use Rattle.poad_load.specs.Played.{Played}
use Rattle.poad_load.proofs.playing.play_draws.Given as goal

-- so many draws were played
abbrev pub invariant-loop-done : goal.invariant-loop-done
invariant-loop-done l = record {
  plays : Played (PlaysDraws l.start l.done) l.fn.play l.play;
  number : l.generator.number ≡ number_behind l.start l.done;
  id : l.id ≡ next_id l.start l.done;
  few : l.id ≤ l.done + 1;
}
