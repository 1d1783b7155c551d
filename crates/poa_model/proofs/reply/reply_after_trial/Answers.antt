use Rattle.std.proofs.Common.{reverse}
use Rattle.poa_model.proofs.reply.reply_after_trial.Goals as goal

-- the settings tell the history
pub returns : goal.returns
returns c = c.reply_tried.ensures (reverse c.args.past.now) c.in_ok-settings.ensures
