use Rattle.giop_answer.proofs.Replies.{front_through}
use Rattle.giop_answer.proofs.reply.put_fields.Goals as goal

pub returns-clause-front : goal.returns-clause-front
returns-clause-front c =
    front_through c.args.writer.now.bytes c.put_opening.new.writer.bytes c.put_body.new.writer.bytes c.in_ok-put_opening.ensures.front c.put_body.ensures.front
