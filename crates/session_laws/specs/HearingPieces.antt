-- What is read of a peer, piece by piece.
use Rattle.std.specs.Prelude.{◌≡◌, ℕ, ◌+◌, ◌<◌, List, [], ◌∷◌, length, Ok, Err}
use Rattle.giop_frame.specs.Stream.{Framed}
use Rattle.giop_msg.specs.declared.Incoming.TheVariants as incoming
use Rattle.giop_msg.specs.declared.MsgFault.{MsgFault}
use Rattle.giop_msg.specs.Call.{CallOf}
use Rattle.session_laws.specs.Calls.{IsSaid}
use Rattle.session_laws.specs.Lines.{spoken}
use Rattle.giop_frame.specs.Framer.{reach, HasFirst}
use Rattle.session_laws.specs.declared.peer.Peer.{Peer}
use Rattle.session_laws.specs.declared.peer.Peer.TheVariants.{Client, Administrator}
use Rattle.poa_history.specs.Legal.{IsSize}
use Rattle.session_laws.specs.Hearing.{Heard, Stop, closed, over, bad, message_limit}
use Rattle.session_laws.specs.Expecting.{Hearing, OfFramer, OfLines}
use Rattle.session_laws.specs.declared.ear.Ear.{Ear}
use Rattle.session_laws.specs.declared.ear.Ear.TheVariants.{Messages, Lines}
use Rattle.session_laws.specs.declared.told.Told.{Told}
use Rattle.session_laws.specs.declared.told.Told.TheVariants as told

-- what an ear still hears
abbrev pub OfEar : Ear → Hearing
OfEar (Messages framer) = OfFramer framer
OfEar (Lines lines) = OfLines lines

-- the place behind the last byte that it was fed
abbrev pub reach_of : Ear → ℕ
reach_of (Messages framer) = reach framer
reach_of (Lines lines) = lines.place + length lines.unread

-- how many bytes it was fed and hasn't read
abbrev pub unread_of : Ear → ℕ
unread_of (Messages framer) = length framer.unread
unread_of (Lines lines) = length lines.unread

-- a client's messages are no longer than a message may be
abbrev pub IsLimited : Ear → Type 0
IsLimited (Messages framer) = framer.limit ≡ message_limit
IsLimited (Lines lines) = Unit {0}

-- an ear, and how many bytes it was fed
pub record Intake : Type 0 where
  pub ear : Ear
  pub taken : ℕ

-- what is heard yet of a peer whose bytes are taken in so
abbrev pub OfIntake : Intake → Hearing
OfIntake i = OfEar i.ear

-- of a client that sent this text: the framer knows of which version its first message is
abbrev pub KnowsFirst : Peer → Ear → List ℕ → Type 0
KnowsFirst Client (Messages framer) text = HasFirst message_limit text framer
KnowsFirst Client (Lines lines) text = ⊥
KnowsFirst Administrator ear text = Unit {0}

-- what is heard of the second is heard of the first
abbrev pub StillHears : Hearing → Hearing → Type 0
StillHears P Q = (next : List ℕ) (more : List Heard) (stop : Stop) → Q next more stop → P next more stop

-- what an answer says of what was to be heard, P, and of what is to be heard behind it, Q. Where the input stops at a place,
-- it stops there whatever still comes
abbrev pub AsTold : Told → Hearing → Hearing → Type 0
AsTold (told.Call call size) P Q =
    ((next : List ℕ) (more : List Heard) (stop : Stop) → Q next more stop → P next (record { call = call; size = size } ∷ more) stop)
    × IsSize size × IsSaid call
AsTold told.Nothing P Q = StillHears P Q
AsTold (told.More have) P Q = StillHears P Q × Q [] [] (over have)
AsTold told.Closed P Q = (next : List ℕ) → P next [] closed
AsTold (told.Bad at) P Q = (next : List ℕ) → P next [] (bad at)

-- a message and a line take unread bytes away, so that a loop over what is told ends
abbrev pub TakesBytes : Told → ℕ → ℕ → Type 0
TakesBytes (told.Call call size) before now = now < before
TakesBytes told.Nothing before now = now < before
TakesBytes other before now = Unit {0}

-- what an answer says of a message
abbrev pub Asks : Framed → Told → Type 0
Asks m (told.Call call size) = CallOf m.bytes (Ok (incoming.Call call)) × (size ≡ length m.bytes) × IsSize size
Asks m told.Nothing = (id : ℕ) × CallOf m.bytes (Ok (incoming.Cancel id))
Asks m (told.More have) = ⊥
Asks m told.Closed = CallOf m.bytes (Ok incoming.Closing)
Asks m (told.Bad at) = (at ≡ m.at) × (fault : MsgFault) × CallOf m.bytes (Err fault)

-- what an answer says of a line of this number
abbrev pub Speaks : ℕ → List ℕ → Told → Type 0
Speaks number line (told.Call call size) = (spoken number line ≡ record { call = call; size = size } ∷ []) × IsSize size
Speaks number line told.Nothing = spoken number line ≡ []
Speaks number line other = ⊥
