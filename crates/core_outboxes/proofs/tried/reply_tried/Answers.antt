use Rattle.std.proofs.Common.{◌≡◌, subst, option_copied, IfOk}
use Rattle.core_outboxes.proofs.Told.{tried_told}
use Rattle.core_outboxes.proofs.tried.reply_tried.Goals as goal

-- the settings tell what the history says
pub returns : goal.returns
returns c =
    λ past tells. subst (λ x. IfOk c.reply_told.result (λ reply. reply ≡ x))
    (tried_told c.args.config.now c.args.settings.now past tells (option_copied c.args.call) c.args.answer.now) c.reply_told.ensures
