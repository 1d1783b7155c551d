use Rattle.replay_run.proofs.Listed.{Ahead}
use Rattle.replay_run.specs.Playing.{PlaysAll}
use Rattle.replay_run.specs.Keeping.{Keeps, Shows}
use Rattle.replay_run.proofs.replaying.play_all.Given as goal

-- the steps so far are the front of all
abbrev pub invariant-loop-step : goal.invariant-loop-step
invariant-loop-step l = record {
  shows : Shows (Ahead PlaysAll l.steps l.step-index) l.fn.player l.player l.fn.channels.items l.channels.items;
  keeps : Keeps l.player l.channels.items;
}
