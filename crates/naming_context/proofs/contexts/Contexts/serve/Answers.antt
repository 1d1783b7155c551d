use Rattle.std.proofs.Common.{List, ℕ, subst}
use Rattle.naming_context.specs.Kept.{standing_of}
use Rattle.naming_context.specs.Serving.{IsDoneBy}
use Rattle.naming_context.proofs.Served.{locate_served, request_served}
use Rattle.naming_context.proofs.contexts.Contexts.serve.Goals as goal

pub returns-in_ok-answer-in-Request-clause-ok : goal.returns-in_ok-answer-in-Request-clause-ok
returns-in_ok-answer-in-Request-clause-ok c =
    request_served c.put_asked.result c.args.call.now c.in-Request.head c.in-Request.target c.in-Request.operation c.in-Request.body
    (standing_of c.args.self.now) (standing_of c.answer.new.self) c.in_ok-answer-in-Request.answer _ _ c.in-Request.is
    (subst
    (λ (word : List ℕ). IsDoneBy c.in-Request.target word c.in-Request.body (standing_of c.args.self.now) c.in_ok-answer-in-Request.answer
    (standing_of c.answer.new.self)) c.as_slice.ensures c.in_ok-answer-in-Request.ensures)
    c.put_asked.ensures.ok

pub returns-in-Locate-clause-ok : goal.returns-in-Locate-clause-ok
returns-in-Locate-clause-ok c =
    locate_served c.put_reply.result c.args.call.now c.in-Locate.head c.in-Locate.target (standing_of c.args.self.now) c.locate.result _ _
    c.in-Locate.is c.locate.ensures.tells c.put_reply.ensures.ok
