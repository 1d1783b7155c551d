use Rattle.std.proofs.Common.{refl}
use Rattle.replay_run.proofs.Same.{still_settles}
use Rattle.replay_run.proofs.Gathered.{keeps_cleared, settled, still_givens}
use Rattle.replay_run.proofs.Seats.{keeps_still}
use Rattle.replay_run.proofs.quiet.QuietPlay.settle.Goals as goal

pub returns-clause-rests : goal.returns-clause-rests
returns-clause-rests c = settled c.args.self.now.player c.settle.new.self c.args.self.now.channels.items c.in_ok-settle.ensures

pub returns-clause-givens : goal.returns-clause-givens
returns-clause-givens c = still_givens c.args.self.now.player.core c.settle.new.self.core
    (still_settles c.args.self.now.player.core c.in_ok-settle.ensures.text c.settle.new.self.core c.in_ok-settle.ensures.does)

pub returns-clause-in_play : goal.returns-clause-in_play
returns-clause-in_play c = keeps_cleared c.settle.new.self _ c.args.self.now.channels.items refl refl
    (keeps_still c.args.self.now.player c.settle.new.self c.args.self.now.channels.items c.requires
    (still_settles c.args.self.now.player.core c.in_ok-settle.ensures.text c.settle.new.self.core c.in_ok-settle.ensures.does) c.in_ok-settle.ensures.filled)
