-- The calls that messages make, and the replies to them (CORBA 3.3 Part 2, 9.4.2 to 9.4.6).
use Rattle.std.specs.Prelude.{◌≡◌, ℕ, ◌≤◌, true, false, List, Some, Ok}
use Rattle.poa_base.specs.declared.Call.{Call}
use Rattle.poa_base.specs.declared.Call.TheVariants.{Request, Locate, Line}
use Rattle.poa_base.specs.declared.Entry.{Entry}
use Rattle.poa_base.specs.declared.Head.{Head}
use Rattle.poa_base.specs.declared.Reply.{Reply}
use Rattle.poa_base.specs.declared.Reply.TheVariants.{Outcome, Forward, Addressing, Here, UnknownObject, Answer}
use Rattle.giop_msg.specs.declared.Incoming.TheVariants as incoming
use Rattle.giop_msg.specs.Call.{CallOf}
use Rattle.giop_answer.specs.Reply.{AnswersHead}
use Rattle.history_standing.specs.Arrivals.{call_of}
use Rattle.poa_history.specs.Heads.{head_of}
use Rattle.poa_history.specs.Fits.{FitsCall}

-- a call of a message: its head has a minor version that a reply can have, and says whether it is a locate
abbrev pub IsHeaded : Call → Type 0
IsHeaded (Request head target operation body) = (head.minor ≤ 2) × (head.locate ≡ false)
IsHeaded (Locate head target) = (head.minor ≤ 2) × (head.locate ≡ true)
IsHeaded (Line number command) = ⊥

-- a call of a message, or an administrator's line
abbrev pub IsSaid : Call → Type 0
IsSaid (Request head target operation body) = IsHeaded (Request head target operation body)
IsSaid (Locate head target) = IsHeaded (Locate head target)
IsSaid (Line number command) = Unit {0}

-- each call that arrived is such a one
abbrev pub Each : (Call → Type 0) → List Entry → Type 0
Each P h = (r : ℕ) (call : Call) → call_of h r ≡ Some call → P call

-- the reply can be written for the head of the message that it answers
abbrev pub IsReplyTo : Head → Reply → Type 0
IsReplyTo head reply = (head.minor ≤ 2) × AnswersHead head reply

-- the reply is the answer to a line, or can be written for that head
abbrev pub IsGivenTo : Head → Reply → Type 0
IsGivenTo head (Answer number answer) = Unit {0}
IsGivenTo head (Outcome outcome) = IsReplyTo head (Outcome outcome)
IsGivenTo head (Forward endpoint key) = IsReplyTo head (Forward endpoint key)
IsGivenTo head Addressing = IsReplyTo head Addressing
IsGivenTo head Here = IsReplyTo head Here
IsGivenTo head UnknownObject = IsReplyTo head UnknownObject

-- what is read of a message is a call of a message
abbrev pub MessagesAreHeaded : Type 0
MessagesAreHeaded = (bytes : List ℕ) (call : Call) → CallOf bytes (Ok (incoming.Call call)) → IsHeaded call

-- a reply to a call of its kind answers the head of that call
abbrev pub RepliesAnswer : Type 0
RepliesAnswer = (call : Call) (reply : Reply) → IsHeaded call → FitsCall (Some call) reply → IsReplyTo (head_of (Some call)) reply
