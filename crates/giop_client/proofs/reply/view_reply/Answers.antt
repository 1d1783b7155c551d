-- The view keeps its byte order behind the head.
use Rattle.std.proofs.Common.{ap, ◌∙◌}
use Rattle.cdr_core.specs.Cursor.{Cursor}
use Rattle.giop_client.proofs.Going.{head_on}
use Rattle.giop_client.proofs.reply.view_reply.Goals as goal

pub view_body-body-requires : goal.view_body-body-requires
view_body-body-requires c = head_on _ _ _ _ _ c.in_ok-told.ensures.ok ∙ ap (λ (x : Cursor). x.little) c.new-view.ensures
