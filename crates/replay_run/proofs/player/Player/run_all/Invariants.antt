use Rattle.std.proofs.Common.{◌≡◌, false, ℕ, ◌<◌}
use Rattle.replay_run.specs.Working.{RunsBelow, IsIdle}
use Rattle.replay_run.specs.Effects.{Works}
use Rattle.replay_run.proofs.player.Player.run_all.Given as goal

-- the workers so far have run; where none made an entry all of them are idle
abbrev pub invariant-loop-worker : goal.invariant-loop-worker
invariant-loop-worker l = record {
  runs : Works (RunsBelow l.worker) l.fn.self l.self;
  still : l.moved ≡ false → l.self ≡ l.fn.self;
  idle : l.moved ≡ false → (w : ℕ) → w < l.worker → IsIdle l.fn.self.core w;
}
