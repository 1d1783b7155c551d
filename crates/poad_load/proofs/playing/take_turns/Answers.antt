use Rattle.replay_script.specs.declared.Step.TheVariants as step
use Rattle.replay_run.specs.Playing.{Plays}
use Rattle.poad_load.specs.Loading.{TakesTurns}
use Rattle.poad_load.proofs.Parts.{one_more, played_then}
use Rattle.poad_load.proofs.playing.take_turns.Goals as goal

pub loop-done-preserved : goal.loop-done-preserved
loop-done-preserved c = one_more (λ k. TakesTurns k c.args.worker) c.loop-done.done c.args.play.now c.play.new.self
    (played_then (TakesTurns c.loop-done.done c.args.worker) (Plays (step.Step c.args.worker)) c.args.play.now c.loop-done.play c.play.new.self
    c.loop-done.invariant c.in_ok-play.ensures.plays c.in_ok-play.ensures.givens c.in_ok-play.ensures.in_play)
