use Rattle.replay_run.proofs.Whole.{keeps_first}
use Rattle.replay_run.proofs.quiet.QuietPlay.new.Goals as goal

pub returns-clause-in_play : goal.returns-clause-in_play
returns-clause-in_play c =
    keeps_first c.args.config c.args.limit c.in_ok-player.player _ c.in_ok-channels.channels.items c.in_ok-player.ensures c.in_ok-channels.ensures
