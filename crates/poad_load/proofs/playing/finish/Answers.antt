use Rattle.poad_load.proofs.Parts.{finished}
use Rattle.poad_load.proofs.playing.finish.Goals as goal

pub returns : goal.returns
returns c =
    finished c.args.play.now c.settle.new.self c.gather.new.self c.args.messages.now.items c.gather.new.out.items c.in_ok-settle.ensures.rests
    c.in_ok-settle.ensures.givens
    c.in_ok-gather.ensures.gathers c.in_ok-gather.ensures.givens c.in_ok-gather.ensures.in_play
