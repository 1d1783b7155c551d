-- The answer is the message's, of which there is one; and where its parts lie follows from their spelling.
use Rattle.std.proofs.Common.{◌≡◌, ℕ, ◌≤◌, List, length, Result, sym, subst}
use Rattle.std.specs.Prelude.{IfOk}
use Rattle.giop_msg.specs.declared.incoming.Incoming.{Incoming}
use Rattle.giop_msg.specs.declared.fault.MsgFault.{MsgFault}
use Rattle.giop_answer.specs.declared.kind.TheConstants.{HEADER}
use Rattle.giop_msg.specs.Call.{CallOf}
use Rattle.giop_msg.specs.Seen.{asked_by, answer_of}
use Rattle.giop_msg.specs.Lent.{LendsParts}
use Rattle.giop_msg.proofs.Answering.{only_seen, seen_lends}
use Rattle.giop_msg.proofs.viewing.view_call.Goals as goal

pub returns-clause-lent : goal.returns-clause-lent
returns-clause-lent c =
    subst (λ (l : List ℕ). IfOk c.view_message.result (λ seen. LendsParts l (asked_by seen)))
    c.bytes.ensures.same
    (seen_lends c.bytes.result.now c.view_message.result
    (subst (λ (l : List ℕ). HEADER ≤ length l) (sym c.bytes.ensures.same) c.bytes.ensures.message.header)
    c.view_message.ensures.call)

pub returns-clause-only : goal.returns-clause-only
returns-clause-only c =
    subst (λ (l : List ℕ). (answer : Result Incoming MsgFault) → CallOf l answer → answer_of c.view_message.result ≡ answer)
    c.bytes.ensures.same
    (only_seen c.bytes.result.now c.view_message.result c.view_message.ensures.call c.view_message.ensures.fault)
