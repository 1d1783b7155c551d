-- A text that goes on: what is heard of it begins with the same calls.
use Rattle.std.proofs.Common.{◌≡◌, ℕ, List, [], ◌∷◌, ◌++◌, length, Result, Ok, Err, sym, ap, ◌∙◌, subst, append_assoc}
use Rattle.giop_frame.specs.Stream.{End, Framed, start}
use Rattle.giop_frame.proofs.Streams.{one_stream}
use Rattle.giop_msg.specs.declared.Incoming.{Incoming}
use Rattle.giop_msg.specs.declared.Incoming.TheVariants as incoming
use Rattle.giop_msg.specs.declared.MsgFault.{MsgFault}
use Rattle.giop_msg.proofs.Calls.{one_call}
use Rattle.poad_answer.proofs.Longer.{stream_longer}
use Rattle.session_laws.specs.Hearing.{Heard, HeardFrom, HeardIn, Stop, message_limit}
use Rattle.session_laws.specs.Sessions.{Begins, Hears}
use Rattle.session_laws.specs.declared.peer.Peer.{Peer}
use Rattle.session_laws.specs.declared.peer.Peer.TheVariants.{Administrator, Client}
use Rattle.poad_cmd.proofs.LongerLines.{GoesOn, lines_longer}

-- none is the front of any
none_goes_on : (calls whole : List Heard) → calls ≡ [] → GoesOn calls whole
none_goes_on calls whole none = (whole, ap (λ l. l ++ whole) (sym none))

-- of messages, by what is heard behind the first
module _ (m : Framed) (P Q : List Heard → Stop → Type 0)
    (behind : (calls whole : List Heard) (stop last : Stop) → P calls stop → Q whole last → GoesOn calls whole) where
  from_front : (said : Result Incoming MsgFault) (calls whole : List Heard) (stop last : Stop) → HeardFrom m said P calls stop
      → HeardFrom m said Q whole last → GoesOn calls whole
  from_front (Ok (incoming.Call call)) calls whole stop last a b =
      let heard : Heard = record { call = call; size = length m.bytes } in
      let rest = behind a.0 b.0 stop last a.2 b.2 in
      (rest.0, b.1 ∙ ap (λ l. heard ∷ l) rest.1 ∙ ap (λ l. l ++ rest.0) (sym a.1))
  from_front (Ok (incoming.Cancel id)) calls whole stop last a b = behind calls whole stop last a b
  from_front (Ok incoming.Closing) calls whole stop last a b = none_goes_on calls whole a.0
  from_front (Err fault) calls whole stop last a b = none_goes_on calls whole a.0

messages_front : (ms others : List Framed) (end later : End) (calls whole : List Heard) (stop last : Stop) → HeardIn ms end calls stop
    → HeardIn (ms ++ others) later whole last → GoesOn calls whole
messages_front [] others end later calls whole stop last a b = none_goes_on calls whole a.0
messages_front (m ∷ ms) others end later calls whole stop last a b =
    from_front m (HeardIn ms end) (HeardIn (ms ++ others) later) (messages_front ms others end later) a.0 calls whole stop last a.2
    (subst (λ said. HeardFrom m said (HeardIn (ms ++ others) later) whole last) (one_call m.bytes b.0 a.0 b.1 a.1) b.2)

hears_front : (peer : Peer) (text next : List ℕ) (calls whole : List Heard) (stop last : Stop) → Hears peer text calls stop
    → Hears peer (text ++ next) whole last → GoesOn calls whole
hears_front Client text next calls whole stop last a b =
    let longer = stream_longer message_limit text next a.messages a.end a.stream in
    let one = one_stream message_limit start (text ++ next) b.messages (a.messages ++ longer.0) b.end longer.1 b.stream longer.2 in
    messages_front a.messages longer.0 a.end b.end calls whole stop last a.heard (subst (λ ms. HeardIn ms b.end whole last) one.messages_same b.heard)
hears_front Administrator text next calls whole stop last a b =
    let on = lines_longer 1 text next in (on.0, b.0 ∙ on.1 ∙ ap (λ l. l ++ on.0) (sym a.0))

pub begins_in : (peer : Peer) (text next : List ℕ) (calls whole : List Heard) (last : Stop) → Begins peer text calls → Hears peer (text ++ next) whole last
    → GoesOn calls whole
begins_in peer text next calls whole last begins hears =
    let on = hears_front peer text next (calls ++ begins.more) whole begins.stop last begins.hears hears in
    (begins.more ++ on.0, on.1 ∙ append_assoc calls begins.more on.0)
