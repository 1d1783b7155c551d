-- What is seen of a message, as what the message asks.
use Rattle.std.specs.Prelude.{Result, Ok, Err, option_map}
use Rattle.poa_base.specs.declared.Call.TheVariants as call
use Rattle.giop_msg.specs.declared.incoming.Incoming.{Incoming}
use Rattle.giop_msg.specs.declared.incoming.Incoming.TheVariants as incoming
use Rattle.giop_msg.specs.declared.seen.Seen.{Seen}
use Rattle.giop_msg.specs.declared.seen.Seen.TheVariants.{Request, Locate, Cancel, Closing}
use Rattle.giop_msg.specs.declared.fault.MsgFault.{MsgFault}
use Rattle.giop_msg.specs.declared.fault.MsgFault.TheVariants as fault
use Rattle.giop_msg.specs.declared.view_fault.ViewFault.{ViewFault}
use Rattle.giop_msg.specs.declared.view_fault.ViewFault.TheVariants.{Malformed, NotForServer}

abbrev pub asked_by : Seen → Incoming
asked_by (Request head target operation body base) =
    incoming.Call
    (call.Request head (option_map (λ k. k.now) target) operation.now (record { bytes = body.now; little = head.little; base = base }))
asked_by (Locate head target) = incoming.Call (call.Locate head (option_map (λ k. k.now) target))
asked_by (Cancel id) = incoming.Cancel id
asked_by Closing = incoming.Closing

-- why it asks nothing
abbrev pub told_by : ViewFault → MsgFault
told_by Malformed = fault.Malformed
told_by NotForServer = fault.NotForServer

-- the answer of a view
abbrev pub answer_of : Result Seen ViewFault → Result Incoming MsgFault
answer_of (Ok seen) = Ok (asked_by seen)
answer_of (Err why) = Err (told_by why)
