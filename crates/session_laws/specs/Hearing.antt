-- What is heard of a client: the calls of the messages of its stream, up to the one that ends its input.
use Rattle.std.specs.Prelude.{◌≡◌, ℕ, List, [], ◌∷◌, length, Result, Ok, Err}
use Rattle.poa_base.specs.declared.Call.{Call}
use Rattle.poa_base.specs.declared.limits.TheConstants.{MESSAGE_LIMIT}
use Rattle.giop_frame.specs.Stream.{Framed, End, left_over, bad_place, Stream}
use Rattle.giop_msg.specs.declared.Incoming.{Incoming}
use Rattle.giop_msg.specs.declared.Incoming.TheVariants as incoming
use Rattle.giop_msg.specs.declared.MsgFault.{MsgFault}
use Rattle.giop_msg.specs.Call.{CallOf}
use Rattle.session_laws.specs.Calls.{IsSaid}

-- a call that a peer sends, and the bytes of its message or line
pub record Heard : Type 0 where
  pub call : Call
  pub size : ℕ

-- each of these is the call of a message, or an administrator's line
abbrev pub AreSaid : List Heard → Type 0
AreSaid [] = Unit {0}
AreSaid (heard ∷ more) = IsSaid heard.call × AreSaid more

-- where an input stops: at a CloseConnection; at its end, where so many bytes belong to no message or line; or at a bad place
pub data Stop : Type 0 where
  closed : Stop
  over : ℕ → Stop
  bad : ℕ → Stop

-- the largest size that a message may have, without its header
abbrev pub message_limit : ℕ
message_limit = MESSAGE_LIMIT

abbrev pub stop_at : End → Stop
stop_at (left_over have) = over have
stop_at (bad_place at why) = bad at

-- what is heard from a message on that stands at a place and says this; P is what is heard behind it. A CancelRequest
-- has no effect; behind a CloseConnection, and behind a message that can't be read or isn't for a server, nothing is heard
abbrev pub HeardFrom : Framed → Result Incoming MsgFault → (List Heard → Stop → Type 0) → List Heard → Stop → Type 0
HeardFrom m (Ok (incoming.Call call)) P calls stop =
    (more : List Heard) × (calls ≡ record { call = call; size = length m.bytes } ∷ more) × P more stop
HeardFrom m (Ok (incoming.Cancel id)) P calls stop = P calls stop
HeardFrom m (Ok incoming.Closing) P calls stop = (calls ≡ []) × (stop ≡ closed)
HeardFrom m (Err fault) P calls stop = (calls ≡ []) × (stop ≡ bad m.at)

-- what is heard of messages behind which the stream ends so
abbrev pub HeardIn : List Framed → End → List Heard → Stop → Type 0
HeardIn [] end calls stop = (calls ≡ []) × (stop ≡ stop_at end)
HeardIn (m ∷ ms) end calls stop = (said : Result Incoming MsgFault) × CallOf m.bytes said × HeardFrom m said (HeardIn ms end) calls stop

-- these are the calls of the text, and so it stops: CORBA 3.3 Part 2, 9.4
pub record HearsMessages (text : List ℕ) (calls : List Heard) (stop : Stop) : Type 0 where
  pub messages : List Framed
  pub end : End
  pub stream : Stream message_limit text messages end
  pub heard : HeardIn messages end calls stop
