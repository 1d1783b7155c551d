use Rattle.std.proofs.Common.{◌≡◌, false}
use Rattle.replay_run.specs.Working.{Runs}
use Rattle.replay_run.specs.Effects.{Works}
use Rattle.replay_run.proofs.PlayedOnward.{Onward}
use Rattle.replay_run.proofs.player.Player.run_worker.Given as goal

-- the turns so far are the front of a run; without one nothing has changed
abbrev pub invariant-loop : goal.invariant-loop
invariant-loop l = record {
  runs : Works (Onward (Runs l.worker)) l.fn.self l.self;
  still : l.moved ≡ false → l.self ≡ l.fn.self;
}
