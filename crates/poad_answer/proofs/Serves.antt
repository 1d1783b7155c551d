-- How serving comes on in what comes of a client, call by call.
use Rattle.std.proofs.Common.{◌≡◌, ℕ, ◌<◌, List, [], ◌∷◌, ◌++◌, Option, Some, None, refl, sym, ap, ◌∙◌, subst, append_assoc, append-nil}
use Rattle.poa_base.specs.declared.Call.{Call}
use Rattle.poa_core.specs.declared.ArriveFault.{ArriveFault}
use Rattle.poa_core.specs.declared.ArriveFault.TheVariants.{Limit, WantMemory}
use Rattle.giop_frame.specs.Stream.{End, Framed}
use Rattle.giop_msg.specs.declared.Incoming.{Incoming}
use Rattle.giop_msg.specs.declared.Incoming.TheVariants as incoming
use Rattle.giop_msg.specs.declared.MsgFault.{MsgFault}
use Rattle.giop_msg.specs.Call.{CallOf}
use Rattle.std.specs.Prelude.{Result, Ok, Err}
use Rattle.session_laws.specs.Calls.{IsHeaded}
use Rattle.session_laws.specs.declared.peer.Peer.TheVariants.{Client}
use Rattle.session_laws.specs.declared.ear.Ear.{Ear}
use Rattle.session_laws.specs.declared.ear.Ear.TheVariants.{Messages, Lines}
use Rattle.session_laws.specs.Hearing.{Heard, HeardFrom, HeardIn, Stop as HeardStop, closed, over, bad}
use Rattle.session_laws.specs.Expecting.{Expects}
use Rattle.session_laws.specs.HearingPieces.{Intake, KnowsFirst, OfEar, OfIntake, StillHears, unread_of}
use Rattle.session_laws.proofs.Answering.{message_headed}
use Rattle.session_laws.proofs.Expected.{expects_begins, expects_call, expects_same, expects_stop}
use Rattle.session_laws.proofs.GoingOn.{intake_goes_on}
use Rattle.poad_answer.specs.declared.stop.Stop.{Stop}
use Rattle.poad_answer.specs.declared.stop.Stop.TheVariants.{Waits, Closed, Refused, Full, NoMemory}
use Rattle.poad_answer.specs.Meaning.{Answers, Meaning}
use Rattle.poad_answer.specs.Calls.{Serves}
use Rattle.poad_answer.specs.Piece.{Does, HearsMore, IsOfClient, IsStopBy, Keeps, Server, ServesOne, ServesUpTo, StillKnows, StopsHere, Turns, server}

-- a call that wasn't served
pub does_refused : {A : Type 0} (m : Meaning A) (fault : ArriveFault) (why : Stop) (call : Call) (size : ℕ) (old new : A) (before after : List ℕ)
    → IsStopBy fault why → Answers m (Err fault) call size old new before after → Does m (Some why) call size old new before after
does_refused m (Limit calls bytes) why call size old new before after is answers =
    subst (λ (w : Stop). Does m (Some w) call size old new before after) (sym is) answers
does_refused m WantMemory why call size old new before after is answers =
    subst (λ (w : Stop). Does m (Some w) call size old new before after) (sym is) answers

-- a call that is heard of messages is one of a message
module _ (m : Framed) (P : List Heard → HeardStop → Type 0)
    (behind : (heard : Heard) (more : List Heard) (stop : HeardStop) → P (heard ∷ more) stop → IsHeaded heard.call) where
  from_headed : (said : Result Incoming MsgFault) (heard : Heard) (more : List Heard) (stop : HeardStop) → CallOf m.bytes said
      → HeardFrom m said P (heard ∷ more) stop → IsHeaded heard.call
  from_headed (Ok (incoming.Call call)) heard more stop asks from =
      (let same : call ≡ heard.call = (let e = from.1 in cc) in subst IsHeaded same (message_headed m.bytes call asks))
  from_headed (Ok (incoming.Cancel id)) heard more stop asks from = behind heard more stop from
  from_headed (Ok incoming.Closing) heard more stop asks from = absurd (let e : heard ∷ more ≡ [] = from.0 in cc)
  from_headed (Err fault) heard more stop asks from = absurd (let e : heard ∷ more ≡ [] = from.0 in cc)

messages_headed : (ms : List Framed) (end : End) (heard : Heard) (more : List Heard) (stop : HeardStop) → HeardIn ms end (heard ∷ more) stop
    → IsHeaded heard.call
messages_headed [] end heard more stop is = absurd (let e : heard ∷ more ≡ [] = is.0 in cc)
messages_headed (m ∷ ms) end heard more stop is = from_headed m (HeardIn ms end) (messages_headed ms end) is.0 heard more stop is.1 is.2

ear_headed : (ear : Ear) (text : List ℕ) (heard : Heard) (more : List Heard) (stop : HeardStop) → KnowsFirst Client ear text
    → OfEar ear [] (heard ∷ more) stop → IsHeaded heard.call
ear_headed (Messages framer) text heard more stop knows is = messages_headed is.messages is.end heard more stop is.heard
ear_headed (Lines lines) text heard more stop knows is = absurd knows

-- the call that a client's bytes say next
pub next_headed : (i j : Intake) (call : Call) (size : ℕ) → IsOfClient i
    → ((next : List ℕ) (more : List Heard) (stop : HeardStop) → OfIntake j next more stop → OfIntake i next (record { call = call; size = size } ∷ more) stop)
    → IsHeaded call
next_headed i j call size client step =
    let on = intake_goes_on j [] in
    ear_headed i.ear client.0 (record { call = call; size = size }) on.calls on.stop client.1 (step [] on.calls on.stop on.heard)

-- calls served, and then others
pub serves_then : {S : Type 0} (Gives : S → Call → ℕ → List ℕ → S → Type 0) (a b c : S) (ms ns : List Heard) (xs ys : List ℕ) → Serves Gives a ms xs b
    → Serves Gives b ns ys c → Serves Gives a (ms ++ ns) (xs ++ ys) c
serves_then {S} Gives a b c [] ns xs ys p q =
    let here : Serves Gives a ns ys c = subst (λ (s : S). Serves Gives s ns ys c) p.1 q in
    subst (λ (zs : List ℕ). Serves Gives a ns (zs ++ ys) c) (sym p.0) here
serves_then {S} Gives a b c (m ∷ ms) ns xs ys p q = (
  p.0,
  (
    p.1.0,
    (
      p.1.1.0 ++ ys,
      (
        p.1.1.1.0,
        serves_then Gives p.1.0 b c ms ns p.1.1.0 ys p.1.1.1.1 q,
        ap (λ (zs : List ℕ). zs ++ ys) p.1.1.1.2
            ∙ append_assoc p.0 p.1.1.0 ys,
      ),
    ),
  ),
)

-- one call served
serves_one : {S : Type 0} (Gives : S → Call → ℕ → List ℕ → S → Type 0) (a b : S) (heard : Heard) (reply : List ℕ)
    → Gives a heard.call heard.size reply b → Serves Gives a (heard ∷ []) reply b
serves_one Gives a b heard reply gives = (reply, (b, ([], (gives, (refl, refl), sym (append-nil reply)))))

-- nothing more is heard
hears_none : (i j : Intake) → StillHears (OfIntake i) (OfIntake j) → HearsMore i [] j
hears_none i j still = λ text before e.
    subst (Expects Client (OfIntake j) text) (sym (append-nil before)) (expects_same Client (OfIntake i) (OfIntake j) text before e still)

-- a turn of a server, by what its input says next
module _ {A : Type 0} (m : Meaning A) (a : A) (i j : Intake) (replies : List ℕ) (taken : j.taken ≡ i.taken) (first : StillKnows i j) where
  -- no memory was left for it
  pub turn_wanting : StopsHere m NoMemory (server a i replies) (server a j replies)
  turn_wanting = record {
    waiting = refl;
    taken = taken;
    stops = λ text before e. expects_begins Client (OfIntake i) text before e (intake_goes_on i []);
    kept = tt;
    first = first;
  }

  -- what asks nothing
  pub turn_nothing : StillHears (OfIntake i) (OfIntake j) → unread_of j.ear < unread_of i.ear → ServesOne m (server a i replies) (server a j replies)
  turn_nothing still fewer = record {
    calls = [];
    reply = [];
    served = (refl, refl);
    waiting = sym (append-nil replies);
    taken = taken;
    heard = hears_none i j still;
    fewer = fewer;
    first = first;
  }

  -- nothing more stands whole
  pub turn_more : (have : ℕ) → StillHears (OfIntake i) (OfIntake j) → OfIntake j [] [] (over have)
      → StopsHere m (Waits have) (server a i replies) (server a j replies)
  turn_more have still ends = record {
    waiting = refl;
    taken = taken;
    stops = λ text before e. expects_stop Client (OfIntake j) text before (expects_same Client (OfIntake i) (OfIntake j) text before e still) (over have) ends;
    kept = (refl, hears_none i j still);
    first = first;
  }

  -- a CloseConnection
  pub turn_closed : ((next : List ℕ) → OfIntake i next [] closed) → StopsHere m Closed (server a i replies) (server a j replies)
  turn_closed ends = record {
    waiting = refl;
    taken = taken;
    stops = λ text before e. expects_stop Client (OfIntake i) text before e closed (ends []);
    kept = refl;
    first = first;
  }

  -- a message is bad
  pub turn_bad : (at : ℕ) → ((next : List ℕ) → OfIntake i next [] (bad at)) → StopsHere m (Refused at) (server a i replies) (server a j replies)
  turn_bad at ends = record {
    waiting = refl;
    taken = taken;
    stops = λ text before e. expects_stop Client (OfIntake i) text before e (bad at) (ends []);
    kept = tt;
    first = first;
  }

  -- a call
  module _ (call : Call) (size : ℕ)
      (step : (next : List ℕ) (more : List Heard) (stop : HeardStop) → OfIntake j next more stop
      → OfIntake i next (record { call = call; size = size } ∷ more) stop)
      (fewer : unread_of j.ear < unread_of i.ear) where
    pub turn_call : (result : Option Stop) (b : A) (after : List ℕ) → Does m result call size a b replies after
        → Turns m result (server a i replies) (server b j after)
    turn_call None b after done = record {
      calls = record { call = call; size = size } ∷ [];
      reply = done.reply;
      served = serves_one m.gives a b (record { call = call; size = size }) done.reply done.gives;
      waiting = done.behind;
      taken = taken;
      heard = λ text before e. expects_call Client (OfIntake i) (OfIntake j) text before e (record { call = call; size = size }) step;
      fewer = fewer;
      first = first;
    }
    turn_call (Some (Full calls bytes)) b after done = record {
      waiting = done.1;
      taken = taken;
      stops = λ text before e. record {
        size = size;
        next = record {
          call = call;
          begins = expects_begins Client (OfIntake j) text (before ++ record { call = call; size = size } ∷ [])
              (expects_call Client (OfIntake i) (OfIntake j) text before e (record { call = call; size = size }) step) (intake_goes_on j []);
        };
        refused = done.0;
      };
      kept = tt;
      first = first;
    }
    turn_call (Some NoMemory) b after done = record {
      waiting = done;
      taken = taken;
      stops = λ text before e. expects_begins Client (OfIntake i) text before e (intake_goes_on i []);
      kept = tt;
      first = first;
    }
    turn_call (Some _) b after done = absurd done

-- some calls were served so far
pub record ServesSome {A : Type 0} (m : Meaning A) (old new : Server A) : Type 0 where
  pub calls : List Heard
  pub replies : List ℕ
  pub served : Serves m.gives old.answerer calls replies new.answerer
  pub waiting : new.replies ≡ old.replies ++ replies
  pub taken : new.input.taken ≡ old.input.taken
  pub heard : HearsMore old.input calls new.input
  pub first : StillKnows old.input new.input

pub serves_none : {A : Type 0} (m : Meaning A) (s : Server A) → ServesSome m s s
serves_none m s = record {
  calls = [];
  replies = [];
  served = (refl, refl);
  waiting = sym (append-nil s.replies);
  taken = refl;
  heard = hears_none s.input s.input (λ next more stop heard. heard);
  first = λ text knows. knows;
}

-- and more of them
pub serves_more : {A : Type 0} (m : Meaning A) (a b c : Server A) → ServesSome m a b → ServesOne m b c → ServesSome m a c
serves_more m a b c p q = record {
  calls = p.calls ++ q.calls;
  replies = p.replies ++ q.reply;
  served = serves_then m.gives a.answerer b.answerer c.answerer p.calls q.calls p.replies q.reply p.served q.served;
  waiting = q.waiting ∙ (ap (λ (front : List ℕ). front ++ q.reply) p.waiting ∙ append_assoc a.replies p.replies q.reply);
  taken = q.taken ∙ p.taken;
  heard = λ text before e. subst (Expects Client (OfIntake c.input) text) (append_assoc before p.calls q.calls)
      (q.heard text (before ++ p.calls) (p.heard text before e));
  first = λ text knows. q.first text (p.first text knows);
}

keeps_on : {A : Type 0} (why : Stop) (a b c : Server A) (calls : List Heard) → HearsMore a.input calls b.input → Keeps why [] b.answerer b c
    → Keeps why calls b.answerer a c
keeps_on (Waits have) a b c calls heard kept = (
  kept.0,
  λ text before e. subst (Expects Client (OfIntake c.input) text) (append-nil (before ++ calls)) (kept.1 text (before ++ calls) (heard text before e)),
)
keeps_on Closed a b c calls heard kept = kept
keeps_on _ a b c calls heard kept = tt

-- and then serving stops
pub serves_up_to : {A : Type 0} (m : Meaning A) (why : Stop) (a b c : Server A) → m.fits b.answerer → ServesSome m a b → StopsHere m why b c
    → ServesUpTo m why a c
serves_up_to m why a b c fits p q = record {
  calls = p.calls;
  replies = p.replies;
  last = b.answerer;
  served = p.served;
  fits = fits;
  waiting = q.waiting ∙ p.waiting;
  taken = q.taken ∙ p.taken;
  stops = λ text before e. q.stops text (before ++ p.calls) (p.heard text before e);
  kept = keeps_on why a b c p.calls p.heard q.kept;
  first = λ text knows. q.first text (p.first text knows);
}
