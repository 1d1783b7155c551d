use Rattle.std.proofs.Common.{subst}
use Rattle.replay_script.specs.declared.Step.{Step}
use Rattle.replay_run.specs.Playing.{Plays}
use Rattle.replay_run.specs.Quiet.{Quietly, world_of}
use Rattle.poad_load.proofs.Parts.{ended}
use Rattle.poad_load.proofs.playing.end.Goals as goal

pub returns : goal.returns
returns c =
    ended c.args.play.now c.finish.new.play c.play.new.self c.finish-2.new.play c.args.messages.now.items c.finish.new.messages.items
    c.finish-2.new.messages.items c.in_ok-finish.ensures
    (subst (λ (s : Step). Quietly (Plays s) (world_of c.finish.new.play) (world_of c.play.new.self)) c.in_ok-step.ensures c.in_ok-play.ensures.plays)
    c.in_ok-play.ensures.givens c.in_ok-finish-2.ensures
