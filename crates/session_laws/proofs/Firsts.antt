-- What an ear knows of a client's first message.
use Rattle.std.proofs.Common.{ℕ, List, ◌++◌}
use Rattle.giop_frame.specs.Framing.{Framing}
use Rattle.giop_frame.specs.Framer.{HasFirst}
use Rattle.giop_frame.specs.Stream.{IsFirstMinor}
use Rattle.session_laws.specs.declared.peer.Peer.{Peer}
use Rattle.session_laws.specs.declared.peer.Peer.TheVariants.{Client, Administrator}
use Rattle.session_laws.specs.declared.ear.Ear.TheVariants.{Messages, Lines}
use Rattle.session_laws.specs.Expecting.{Cutting}
use Rattle.session_laws.specs.Hearing.{message_limit}
use Rattle.session_laws.specs.HearingPieces.{KnowsFirst}
use Rattle.session_laws.specs.Sessions.{ClosesIn}

pub messages_fed : (f g : Framing) (piece : List ℕ) → ((limit : ℕ) (fed : List ℕ) → HasFirst limit fed f → HasFirst limit (fed ++ piece) g)
    → (peer : Peer) (text : List ℕ) → KnowsFirst peer (Messages f) text → KnowsFirst peer (Messages g) (text ++ piece)
messages_fed f g piece fed Client text knows = fed message_limit text knows
messages_fed f g piece fed Administrator text knows = tt

pub lines_known : (l m : Cutting) (peer : Peer) (text more : List ℕ) → KnowsFirst peer (Lines l) text → KnowsFirst peer (Lines m) more
lines_known l m Client text more knows = knows
lines_known l m Administrator text more knows = tt

pub messages_known : (f g : Framing) → ((text : List ℕ) → HasFirst message_limit text f → HasFirst message_limit text g) → (peer : Peer) (text : List ℕ)
    → KnowsFirst peer (Messages f) text → KnowsFirst peer (Messages g) text
messages_known f g kept Client text knows = kept text knows
messages_known f g kept Administrator text knows = tt

pub messages_close : (f : Framing) (minor : ℕ) → ((limit : ℕ) (fed : List ℕ) → HasFirst limit fed f → IsFirstMinor limit fed minor) → (peer : Peer)
    (text : List ℕ) → KnowsFirst peer (Messages f) text → ClosesIn peer text minor
messages_close f minor told Client text knows = told message_limit text knows
messages_close f minor told Administrator text knows = tt

pub lines_close : (l : Cutting) (minor : ℕ) (peer : Peer) (text : List ℕ) → KnowsFirst peer (Lines l) text → ClosesIn peer text minor
lines_close l minor Client text knows = absurd knows
lines_close l minor Administrator text knows = tt
