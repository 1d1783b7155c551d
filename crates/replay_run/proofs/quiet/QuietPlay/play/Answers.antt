use Rattle.replay_run.proofs.Gathered.{played_givens}
use Rattle.replay_run.proofs.quiet.QuietPlay.play.Goals as goal

pub returns-clause-givens : goal.returns-clause-givens
returns-clause-givens c =
    played_givens c.args.step.now c.args.self.now.player c.play.new.player c.args.self.now.channels.items c.play.new.channels.items c.in_ok-play.ensures.shows
