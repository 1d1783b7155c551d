use Rattle.replay_script.specs.declared.Step.TheVariants as step
use Rattle.replay_run.specs.Playing.{Plays}
use Rattle.poad_load.specs.Loading.{EntersFirst}
use Rattle.poad_load.proofs.Parts.{one_more, played_then}
use Rattle.poad_load.proofs.playing.enter.Goals as goal

pub loop-place-preserved : goal.loop-place-preserved
loop-place-preserved c = one_more EntersFirst c.loop-place.place c.args.play.now c.play.new.self
    (played_then (EntersFirst c.loop-place.place) (Plays (step.Collect c.loop-place.place)) c.args.play.now c.loop-place.play c.play.new.self
    c.loop-place.invariant c.in_ok-play.ensures.plays c.in_ok-play.ensures.givens c.in_ok-play.ensures.in_play)
