use Rattle.replay_run.specs.Working.{IsIdle}
use Rattle.replay_run.proofs.Turned.{round_more, still_more, idle_more}
use Rattle.replay_run.proofs.player.Player.run_all.Goals as goal

pub loop-worker-preserved : goal.loop-worker-preserved
loop-worker-preserved c = record {
  runs = round_more c.loop-worker.worker _ c.loop-worker.self c.run_worker.new.self c.loop-worker.invariant.runs c.in_ok-moved.ensures.works;
  still = still_more c.loop-worker.moved c.in_ok-moved.field-0
      (λ life. IsIdle life c.loop-worker.worker) _ c.loop-worker.self c.run_worker.new.self c.loop-worker.invariant.still c.in_ok-moved.ensures.moved;
  idle = idle_more c.loop-worker.moved c.in_ok-moved.field-0 c.loop-worker.worker _ c.loop-worker.self c.run_worker.new.self c.loop-worker.invariant.still
      c.loop-worker.invariant.idle c.in_ok-moved.ensures.moved;
}
