use Rattle.session_laws.proofs.Calls.{given_said}
use Rattle.replay_run.proofs.player.Player.collect_next.Goals as goal

pub print_reply-requires : goal.print_reply-requires
print_reply-requires c =
    given_said c.args.self.now.core.history c.in-Reply.arrival c.in-Reply.head c.in-Reply.reply c.requires.said c.in-Reply.ensures.collects.1
    c.in-Reply.ensures.fits
