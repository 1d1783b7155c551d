-- What the bytes of a link say to a request: the first message of their stream.
use Rattle.std.specs.Prelude.{◌≡◌, ℕ, nat_le, List, [], ◌∷◌, Option, Some, None, IsSomeAnd, if◌then◌else◌, length}
use Rattle.giop_frame.specs.Stream.{Framed, End, left_over, bad_place, Stream}
use Rattle.giop_client.specs.declared.hop.Hop.{Hop}
use Rattle.giop_client.specs.declared.hop.Hop.TheVariants as hop
use Rattle.poa_base.specs.declared.limits.TheConstants.{MESSAGE_LIMIT}
use Rattle.giop_client.specs.declared.hearing.TheConstants.{READ_LIMIT}
use Rattle.giop_client.specs.Reply.{MessageSays}

-- what so many bytes say that hold no whole message: nothing yet, or, at the limit of what is read, no answer
abbrev pub said_so_far : ℕ → Option Hop
said_so_far count = if nat_le READ_LIMIT count then Some hop.BadReply else None

-- what the messages and the end of a text of so many bytes say; at a bad place, no answer
abbrev pub StreamSays : ℕ → ℕ → List Framed → End → Option Hop → Type 0
StreamSays id count (message ∷ more) end said = IsSomeAnd said (MessageSays id message.bytes)
StreamSays id count [] (bad_place at why) said = said ≡ Some hop.BadReply
StreamSays id count [] (left_over have) said = said ≡ said_so_far count

-- what the bytes say to the request of this id, or None where they say nothing yet
pub record IsHop (id : ℕ) (bytes : List ℕ) (said : Option Hop) : Type 0 where
  pub messages : List Framed
  pub end : End
  pub stream : Stream MESSAGE_LIMIT bytes messages end
  pub says : StreamSays id (length bytes) messages end said
