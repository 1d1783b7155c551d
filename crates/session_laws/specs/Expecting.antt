-- What is still to be heard of a peer, as its bytes are taken: the words of those that read them piece by piece.
use Rattle.std.specs.Prelude.{ℕ, List, ◌++◌}
use Rattle.giop_frame.specs.Stream.{Framed, End}
use Rattle.giop_frame.specs.Framing.{Framing}
use Rattle.giop_frame.specs.Framer.{FramerGives}
use Rattle.session_laws.specs.declared.peer.Peer.{Peer}
use Rattle.session_laws.specs.Hearing.{Heard, Stop, HeardIn}
use Rattle.session_laws.specs.Lines.{HearsLinesFrom}
use Rattle.session_laws.specs.Sessions.{Hears}

-- what is heard yet, for each text that still comes: the calls, and where the input stops
abbrev pub Hearing : Type 1
Hearing = List ℕ → List Heard → Stop → Type 0

-- of a framer: what the messages say that it gives
pub record OfFramer (f : Framing) (next : List ℕ) (calls : List Heard) (stop : Stop) : Type 0 where
  pub messages : List Framed
  pub end : End
  pub gives : FramerGives f next messages end
  pub heard : HeardIn messages end calls stop

-- an administrator's bytes behind the lines that were read: the place and the number of the next line, and the bytes
-- from there on
pub record Cutting : Type 0 where
  pub place : ℕ
  pub number : ℕ
  pub unread : List ℕ

-- of lines
abbrev pub OfLines : Cutting → Hearing
OfLines l next calls stop = HearsLinesFrom l.place l.number (l.unread ++ next) calls stop

-- this text and these calls were heard, and the rest is still to be heard
abbrev pub Expects : Peer → Hearing → List ℕ → List Heard → Type 0
Expects peer P text calls = (next : List ℕ) (more : List Heard) (stop : Stop) → P next more stop
    → Hears peer (text ++ next) (calls ++ more) stop

-- for each text that still comes something is heard
pub record GoesOn (P : Hearing) (next : List ℕ) : Type 0 where
  pub calls : List Heard
  pub stop : Stop
  pub heard : P next calls stop
