-- Laws of reading messages.
use Rattle.std.specs.Prelude.{◌≡◌, ◌≤◌, ℕ, List, Result, Ok}
use Rattle.poa_base.specs.declared.Ask.{Ask}
use Rattle.giop_frame.specs.Message.{IsMessage}
use Rattle.giop_answer.specs.declared.kind.TheConstants.{MINOR}
use Rattle.giop_msg.specs.declared.incoming.Incoming.{Incoming}
use Rattle.giop_msg.specs.declared.incoming.Incoming.TheVariants as incoming
use Rattle.giop_msg.specs.declared.fault.MsgFault.{MsgFault}
use Rattle.giop_msg.specs.Call.{CallOf}
use Rattle.giop_msg.specs.Ask.{request_bytes, call_of, IsAsk}

-- a message gives one answer
abbrev pub OneCall : Type 0
OneCall = (bytes : List ℕ) (r s : Result Incoming MsgFault) → CallOf bytes r → CallOf bytes s → r ≡ s

-- and each bytes give one: a call, a cancel or a closing, or why they ask nothing
abbrev pub EachSays : Type 0
EachSays = (bytes : List ℕ) → (said : Result Incoming MsgFault) × CallOf bytes said

-- a Request that is written is a message
abbrev pub WrittenIsMessage : Type 0
WrittenIsMessage = (ask : Ask) → ask.head.minor ≤ MINOR → IsMessage (request_bytes ask)

-- and asks the call that it was written for
abbrev pub WrittenAsks : Type 0
WrittenAsks = (ask : Ask) → IsAsk ask → CallOf (request_bytes ask) (Ok (incoming.Call (call_of ask)))
