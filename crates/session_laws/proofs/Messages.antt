-- What a framer's answers say of what is still to be heard.
use Rattle.std.proofs.Common.{ℕ, List, [], ◌∷◌, ◌++◌, ◌↔◌, length, Result, Ok, Err, refl}
use Rattle.poa_base.specs.declared.Call.{Call}
use Rattle.giop_frame.specs.declared.Next.TheVariants as next
use Rattle.giop_frame.specs.declared.Why.{Why}
use Rattle.giop_frame.specs.Stream.{Framed, End, left_over, bad_place}
use Rattle.giop_frame.specs.Framing.{Framing}
use Rattle.giop_frame.specs.Framer.{FramerGives, FramerAnswers, GiveTheSame, HasGiven}
use Rattle.giop_msg.specs.declared.Incoming.{Incoming}
use Rattle.giop_msg.specs.declared.Incoming.TheVariants as incoming
use Rattle.giop_msg.specs.declared.MsgFault.{MsgFault}
use Rattle.giop_msg.specs.Call.{CallOf}
use Rattle.session_laws.specs.declared.peer.Peer.TheVariants.{Client}
use Rattle.session_laws.specs.Hearing.{Heard, Stop, closed, over, bad, stop_at, HeardIn, message_limit}
use Rattle.session_laws.specs.Expecting.{Expects, GoesOn, OfFramer}

-- each message says something
abbrev pub MessagesSay : Type 0
MessagesSay = (bytes : List ℕ) → (said : Result Incoming MsgFault) × CallOf bytes said

-- whatever the framer is fed, it gives something
abbrev pub FramerGoesOn : Framing → List ℕ → Type 0
FramerGoesOn f text = (messages : List Framed) × (end : End) × FramerGives f text messages end

-- of these messages something is heard
abbrev pub SomeHeard : List Framed → End → Type 0
SomeHeard ms end = (calls : List Heard) × (stop : Stop) × HeardIn ms end calls stop

heard_more : (m : Framed) (ms : List Framed) (end : End) → SomeHeard ms end → (said : Result Incoming MsgFault) → CallOf m.bytes said → SomeHeard (m ∷ ms) end
heard_more m ms end rest (Ok (incoming.Call call)) is =
    (record { call = call; size = length m.bytes } ∷ rest.0, rest.1, (Ok (incoming.Call call), is, (rest.0, refl, rest.2)))
heard_more m ms end rest (Ok (incoming.Cancel id)) is = (rest.0, rest.1, (Ok (incoming.Cancel id), is, rest.2))
heard_more m ms end rest (Ok incoming.Closing) is = ([], closed, (Ok incoming.Closing, is, (refl, refl)))
heard_more m ms end rest (Err fault) is = ([], bad m.at, (Err fault, is, (refl, refl)))

pub some_heard : MessagesSay → (ms : List Framed) (end : End) → SomeHeard ms end
some_heard say [] end = ([], stop_at end, (refl, refl))
some_heard say (m ∷ ms) end = heard_more m ms end (some_heard say ms end) (say m.bytes).0 (say m.bytes).1

pub framer_goes_on : MessagesSay → (f : Framing) (text : List ℕ) → FramerGoesOn f text → GoesOn (OfFramer f) text
framer_goes_on say f text on =
    let heard = some_heard say on.0 on.1 in
    record { calls = heard.0; stop = heard.1; heard = record { messages = on.0; end = on.1; gives = on.2; heard = heard.2 } }

-- a framer that was fed nothing
pub framer_new : (f : Framing) → HasGiven message_limit [] [] f → Expects Client (OfFramer f) [] []
framer_new f given = λ text calls stop w. record { messages = w.messages; end = w.end; stream = (given text w.messages w.end).0 w.gives; heard = w.heard }

module _ (f g : Framing) (text : List ℕ) (calls : List Heard) (stop : Stop) (w : OfFramer g text calls stop) where
  pub framer_fed : (piece : List ℕ)
      → ((rest : List ℕ) (messages : List Framed) (end : End) → FramerGives g rest messages end ↔ FramerGives f (piece ++ rest) messages end)
      → OfFramer f (piece ++ text) calls stop
  framer_fed piece fed = record { messages = w.messages; end = w.end; gives = (fed text w.messages w.end).0 w.gives; heard = w.heard }

  pub framer_same : GiveTheSame f g → OfFramer f text calls stop
  framer_same same = record { messages = w.messages; end = w.end; gives = (same text w.messages w.end).0 w.gives; heard = w.heard }

  pub framer_call : (m : Framed) (call : Call) → FramerAnswers f (next.Message m) g → CallOf m.bytes (Ok (incoming.Call call))
      → OfFramer f text (record { call = call; size = length m.bytes } ∷ calls) stop
  framer_call m call answers is = record {
    messages = m ∷ w.messages;
    end = w.end;
    gives = (answers text w.messages w.end).0 w.gives;
    heard = (Ok (incoming.Call call), is, (calls, refl, w.heard));
  }

  pub framer_cancel : (m : Framed) (id : ℕ) → FramerAnswers f (next.Message m) g → CallOf m.bytes (Ok (incoming.Cancel id)) → OfFramer f text calls stop
  framer_cancel m id answers is = record {
    messages = m ∷ w.messages;
    end = w.end;
    gives = (answers text w.messages w.end).0 w.gives;
    heard = (Ok (incoming.Cancel id), is, w.heard);
  }

module _ (f g : Framing) (text : List ℕ) (m : Framed) (answers : FramerAnswers f (next.Message m) g) (on : FramerGoesOn g text) where
  pub framer_closing : CallOf m.bytes (Ok incoming.Closing) → OfFramer f text [] closed
  framer_closing is = record { messages = m ∷ on.0; end = on.1; gives = (answers text on.0 on.1).0 on.2; heard = (Ok incoming.Closing, is, (refl, refl)) }

  pub framer_malformed : (fault : MsgFault) → CallOf m.bytes (Err fault) → OfFramer f text [] (bad m.at)
  framer_malformed fault is = record { messages = m ∷ on.0; end = on.1; gives = (answers text on.0 on.1).0 on.2; heard = (Err fault, is, (refl, refl)) }

pub framer_over : (f g : Framing) (have : ℕ) → FramerAnswers f (next.NeedMore have) g → OfFramer f [] [] (over have)
framer_over f g have answers = record { messages = []; end = left_over have; gives = answers.0; heard = (refl, refl) }

pub framer_bad : (f g : Framing) (at : ℕ) (why : Why) (text : List ℕ) → FramerAnswers f (next.Bad at why) g → OfFramer f text [] (bad at)
framer_bad f g at why text answers = record { messages = []; end = bad_place at why; gives = answers.0 text; heard = (refl, refl) }
