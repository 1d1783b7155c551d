-- Each way in which a Reply is no answer.
use Rattle.std.proofs.Common.{◌≡◌, ℕ}
use Rattle.ior_text.proofs.Bodies.{no_body}
use Rattle.giop_client.specs.declared.hop.Hop.{Hop}
use Rattle.giop_client.specs.Reply.{Answers}
use Rattle.giop_client.proofs.Replies.{no_answer_unread, no_answer_of_another, no_answer_of_kind, no_answer_told}
use Rattle.giop_client.proofs.hop_reading.read_answer.Goals as goal

pub returns-in_default : goal.returns-in_default
returns-in_default c = no_answer_unread c.args.id c.args.bytes.now c.in_default.ensures.bad

pub returns-then-reply-id : goal.returns-then-reply-id
returns-then-reply-id c = no_answer_of_another c.args.id _ _ c.args.bytes.now _ c.in-Ok.ensures.ok c.if-reply-id.true

pub returns-in_default-of : goal.returns-in_default-of
returns-in_default-of c = no_answer_of_kind c.args.id _ _ c.args.bytes.now _ c.in-Ok.ensures.ok c.in_default-of.ensures

pub returns-in-Err : goal.returns-in-Err
returns-in-Err c =
    no_body ((said : Hop) → Answers c.args.id c.args.bytes.now said → ⊥) (λ said. Answers c.args.id c.args.bytes.now said)
    c.in-Err.fault _ c.unreadable.ensures.none c.unreadable.ensures.other
    (λ other. no_answer_told c.args.id _ _ c.args.bytes.now _ _ c.in-Ok.ensures.ok c.in-Some.ensures (c.in-Err.ensures.bad other))
