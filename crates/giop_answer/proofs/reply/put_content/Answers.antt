-- The fields follow what stood there, aligned as from the start of the message.
use Rattle.std.proofs.Common.{◌++◌, ap, ◌∙◌}
use Rattle.cdr_core.specs.Draft.{Draft}
use Rattle.cdr_core.specs.Fields.{with_fields}
use Rattle.giop_answer.specs.Reply.{reply_fields, opening_of, content_draft}
use Rattle.giop_answer.proofs.Replies.{content_behind, on_ok}
use Rattle.giop_answer.proofs.reply.put_content.Goals as goal

pub returns-clause-ok : goal.returns-clause-ok
returns-clause-ok c =
    on_ok c.put_fields-done.result _ _
    (λ written. c.into_bytes.ensures
    ∙ (ap (λ (d : Draft). d.bytes)
    (written ∙ ap (λ (d : Draft). with_fields (reply_fields c.args.head.now c.args.reply.now) (with_fields (opening_of c.args.head.now c.args.reply.now) d))
    c.behind-writer.ensures)
    ∙ (content_behind c.args.head.now c.args.reply.now c.replace-bytes.result.items
    ∙ ap (λ v. v.items ++ (content_draft c.args.head.now c.args.reply.now).bytes) c.replace-bytes.ensures.value)))
    c.put_fields-done.ensures.ok
