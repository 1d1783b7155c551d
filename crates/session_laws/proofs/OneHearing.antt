-- Of one text one thing is heard.
use Rattle.std.proofs.Common.{◌≡◌, ℕ, List, [], ◌∷◌, ◌++◌, length, Result, Ok, Err, sym, ap, ◌∙◌, subst, append_assoc, append-nil, length-append, arith}
use Rattle.poa_base.specs.declared.Call.{Call}
use Rattle.giop_frame.specs.Stream.{Framed, End, start}
use Rattle.giop_frame.proofs.Streams.{one_stream}
use Rattle.giop_msg.specs.declared.Incoming.{Incoming}
use Rattle.giop_msg.specs.declared.Incoming.TheVariants as incoming
use Rattle.giop_msg.specs.declared.MsgFault.{MsgFault}
use Rattle.giop_msg.proofs.Calls.{one_call}
use Rattle.session_laws.specs.declared.peer.Peer.{Peer}
use Rattle.session_laws.specs.declared.peer.Peer.TheVariants.{Client, Administrator}
use Rattle.session_laws.specs.Hearing.{Heard, Stop, HeardFrom, HeardIn, message_limit}
use Rattle.session_laws.specs.Sessions.{Hears}

-- two hearings are one
abbrev pub IsOne : List Heard → List Heard → Stop → Stop → Type 0
IsOne calls others stop other = (calls ≡ others) × (stop ≡ other)

-- of messages, by what is heard behind the first
module _ (m : Framed) (P : List Heard → Stop → Type 0)
    (behind : (calls others : List Heard) (stop other : Stop) → P calls stop → P others other → IsOne calls others stop other) where
  from_once : (said : Result Incoming MsgFault) (calls others : List Heard) (stop other : Stop) → HeardFrom m said P calls stop
      → HeardFrom m said P others other → IsOne calls others stop other
  from_once (Ok (incoming.Call call)) calls others stop other a b =
      let heard : Heard = record { call = call; size = length m.bytes } in
      let rest = behind a.0 b.0 stop other a.2 b.2 in (a.1 ∙ (ap (λ hs. heard ∷ hs) rest.0 ∙ sym b.1), rest.1)
  from_once (Ok (incoming.Cancel id)) calls others stop other a b = behind calls others stop other a b
  from_once (Ok incoming.Closing) calls others stop other a b = (a.0 ∙ sym b.0, a.1 ∙ sym b.1)
  from_once (Err fault) calls others stop other a b = (a.0 ∙ sym b.0, a.1 ∙ sym b.1)

messages_once : (ms : List Framed) (end : End) (calls others : List Heard) (stop other : Stop) → HeardIn ms end calls stop → HeardIn ms end others other
    → IsOne calls others stop other
messages_once [] end calls others stop other a b = (a.0 ∙ sym b.0, a.1 ∙ sym b.1)
messages_once (m ∷ ms) end calls others stop other a b =
    from_once m (HeardIn ms end) (messages_once ms end) a.0 calls others stop other a.2
    (subst (λ said. HeardFrom m said (HeardIn ms end) others other) (one_call m.bytes b.0 a.0 b.1 a.1) b.2)

pub heard_once : (peer : Peer) (text : List ℕ) (calls others : List Heard) (stop other : Stop) → Hears peer text calls stop → Hears peer text others other
    → IsOne calls others stop other
heard_once Client text calls others stop other a b =
    let one = one_stream message_limit start text b.messages a.messages b.end a.end b.stream a.stream in
    messages_once a.messages a.end calls others stop other a.heard
    (subst (λ end. HeardIn a.messages end others other) one.end_same (subst (λ ms. HeardIn ms b.end others other) one.messages_same b.heard))
heard_once Administrator text calls others stop other a b = (a.0 ∙ sym b.0, a.1 ∙ sym b.1)

-- what is the front of itself and one call more
never_longer : (calls more : List Heard) (heard : Heard) → calls ≡ calls ++ heard ∷ more → ⊥
never_longer calls more heard is = absurd (omega (arith, ap length is, length-append calls (heard ∷ more)))

-- where all calls are heard, one more isn't
pub never_more : (peer : Peer) (text : List ℕ) (calls more : List Heard) (heard : Heard) (stop other : Stop) → Hears peer text calls stop
    → Hears peer text (calls ++ heard ∷ more) other → ⊥
never_more peer text calls more heard stop other a b = never_longer calls more heard (heard_once peer text calls (calls ++ heard ∷ more) stop other a b).0

-- in one place there is one call
first_is : (calls some more : List Heard) (a b : Heard) → calls ++ a ∷ some ≡ calls ++ b ∷ more → a ≡ b
first_is [] some more a b is = cc
first_is (h ∷ calls) some more a b is = first_is calls some more a b (let e : h ∷ (calls ++ a ∷ some) ≡ h ∷ (calls ++ b ∷ more) = is in cc)

pub never_other : (peer : Peer) (text : List ℕ) (calls some more : List Heard) (a b : Heard) (stop other : Stop) → Hears peer text (calls ++ a ∷ some) stop
    → Hears peer text (calls ++ b ∷ more) other → a ≡ b
never_other peer text calls some more a b stop other x y =
    first_is calls some more a b (heard_once peer text (calls ++ a ∷ some) (calls ++ b ∷ more) stop other x y).0
