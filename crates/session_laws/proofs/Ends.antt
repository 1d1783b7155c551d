-- What is read and written, by the end of a session.
use Rattle.std.proofs.Common.{◌≡◌, ℕ, true, false, List, [], ◌++◌, length, inl, inr, refl, sym, ap, append-nil, ◌∙◌, length-append, ◌+◌, arith}
use Rattle.poa_base.specs.declared.Entry.{Entry}
use Rattle.poa_base.specs.declared.SessionEnd.{SessionEnd}
use Rattle.poa_base.specs.declared.SessionEnd.TheVariants.{Ended, Shut, ReadFault, WriteFault, Malformed, Truncated, InputLimit, Limit, Abandoned, WantMemory}
use Rattle.session_laws.specs.declared.peer.Peer.{Peer}
use Rattle.session_laws.specs.declared.peer.Peer.TheVariants.{Client, Administrator}
use Rattle.giop_frame.specs.Stream.{first_minor}
use Rattle.giop_frame.proofs.Streams.{stream_alone}
use Rattle.session_laws.specs.Hearing.{Heard, closed, over, bad, message_limit}
use Rattle.session_laws.specs.Sessions.{Begins, CauseBy, ClosesIn, FallsShort, Input, Output, closing, is_settling}
use Rattle.session_laws.proofs.Expected.{hears_begins}

-- however a session ended, the calls that arrived are the first ones
pub input_begins : (peer : Peer) (text : List ℕ) (calls : List Heard) (end : SessionEnd) → Input peer text calls end → Begins peer text calls
input_begins peer text calls Ended (inl heard) = hears_begins peer text calls closed heard
input_begins peer text calls Ended (inr heard) = hears_begins peer text calls (over 0) heard
input_begins peer text calls (Malformed at) heard = hears_begins peer text calls (bad at) heard
input_begins peer text calls (Truncated have) heard = hears_begins peer text calls (over have) heard.0
input_begins peer text calls (InputLimit taken) heard = hears_begins peer text calls (over heard.0) heard.1
input_begins peer text calls end heard = heard

-- each text has a version in which its connection is closed
pub some_minor : (peer : Peer) (text : List ℕ) → (minor : ℕ) × ClosesIn peer text minor
some_minor Client text =
    let one = stream_alone message_limit text in
    (first_minor one.messages, λ messages end stream. ap first_minor (one.alone messages end stream).0)
some_minor Administrator text = (0, tt)

closing_none : (peer : Peer) (minor : ℕ) (end : SessionEnd) → is_settling end ≡ false → closing peer minor end ≡ []
closing_none Administrator minor end now = refl
closing_none Client minor Ended now = refl
closing_none Client minor ReadFault now = refl
closing_none Client minor WriteFault now = refl
closing_none Client minor (InputLimit taken) now = refl
closing_none Client minor (Abandoned worker) now = refl
closing_none Client minor WantMemory now = refl
closing_none Client minor Shut now = absurd (let e : true ≡ false = now in cc)
closing_none Client minor (Malformed at) now = absurd (let e : true ≡ false = now in cc)
closing_none Client minor (Truncated have) now = absurd (let e : true ≡ false = now in cc)
closing_none Client minor (Limit many bytes) now = absurd (let e : true ≡ false = now in cc)

module _ (peer : Peer) (h : List Entry) (text : List ℕ) (calls : List Heard) (replies : List ℕ) (Paid : Type 0) (out : List ℕ) where
  -- what was written is a front of the replies
  pub short_of_replies : Begins peer text calls → (rest : List ℕ) → replies ≡ out ++ rest → FallsShort peer h text calls replies Paid out
  short_of_replies begins rest is =
      let longer : length replies ≡ length out + length rest = ap length is ∙ length-append out rest in
      let some = some_minor peer text in
      record {
        due = WriteFault;
        minor = some.0;
        closes_in = some.1;
        input = begins;
        cause = tt;
        front = (rest, ap (λ x. replies ++ x) (closing_none peer some.0 WriteFault refl) ∙ append-nil replies ∙ is);
        paid = λ more. absurd (omega (arith, longer, more));
      }

  -- what was written is a front of the replies and of the message that closes the connection
  pub short_of_closing : (due : SessionEnd) (minor : ℕ) → ClosesIn peer text minor → Input peer text calls due → CauseBy peer h calls text due → Paid
      → (rest : List ℕ) → replies ++ closing peer minor due ≡ out ++ rest
      → FallsShort peer h text calls replies Paid out
  short_of_closing due minor closes input cause paid rest is =
      record { due = due; minor = minor; closes_in = closes; input = input; cause = cause; front = (rest, is); paid = λ _. paid }

  -- the session ends at once, with what is written
  pub output_now : (end : SessionEnd) → is_settling end ≡ false → Begins peer text calls → out ≡ replies → Output peer h text calls replies Paid out end
  output_now Ended now begins is = absurd (let e : true ≡ false = now in cc)
  output_now Shut now begins is = absurd (let e : true ≡ false = now in cc)
  output_now (Malformed at) now begins is = absurd (let e : true ≡ false = now in cc)
  output_now (Truncated have) now begins is = absurd (let e : true ≡ false = now in cc)
  output_now (Limit many bytes) now begins is = absurd (let e : true ≡ false = now in cc)
  output_now ReadFault now begins is = is
  output_now (InputLimit taken) now begins is = is
  output_now (Abandoned worker) now begins is = is
  output_now WriteFault now begins is = short_of_replies begins [] (sym (append-nil out ∙ is))
  output_now WantMemory now begins is = short_of_replies begins [] (sym (append-nil out ∙ is))

  -- all that was owed is written, and the message that closes the connection
  pub output_settled : (minor : ℕ) → ClosesIn peer text minor → (end : SessionEnd) → is_settling end ≡ true → Paid → out ≡ replies ++ closing peer minor end
      → Output peer h text calls replies Paid out end
  output_settled minor closes Ended settles paid is = record { minor = minor; closes_in = closes; paid = paid; whole = is }
  output_settled minor closes Shut settles paid is = record { minor = minor; closes_in = closes; paid = paid; whole = is }
  output_settled minor closes (Malformed at) settles paid is = record { minor = minor; closes_in = closes; paid = paid; whole = is }
  output_settled minor closes (Truncated have) settles paid is = record { minor = minor; closes_in = closes; paid = paid; whole = is }
  output_settled minor closes (Limit many bytes) settles paid is = record { minor = minor; closes_in = closes; paid = paid; whole = is }
  output_settled minor closes ReadFault settles paid is = absurd (let e : false ≡ true = settles in cc)
  output_settled minor closes (InputLimit taken) settles paid is = absurd (let e : false ≡ true = settles in cc)
  output_settled minor closes (Abandoned worker) settles paid is = absurd (let e : false ≡ true = settles in cc)
  output_settled minor closes WriteFault settles paid is = absurd (let e : false ≡ true = settles in cc)
  output_settled minor closes WantMemory settles paid is = absurd (let e : false ≡ true = settles in cc)

-- what a session writes is judged by what is paid, and by why it would have ended
module _ (peer : Peer) (h k : List Entry) (text : List ℕ) (calls : List Heard) (replies : List ℕ) (Paid Later : Type 0) (out : List ℕ) (later : Paid → Later)
    (since : (due : SessionEnd) → CauseBy peer h calls text due → CauseBy peer k calls text due) where
  short_later : FallsShort peer h text calls replies Paid out → FallsShort peer k text calls replies Later out
  short_later is = record { due = is.due; minor = is.minor; closes_in = is.closes_in; input = is.input; cause = since is.due is.cause; front = is.front; paid = λ more. later (is.paid more) }

  pub output_later : (end : SessionEnd) → Output peer h text calls replies Paid out end → Output peer k text calls replies Later out end
  output_later ReadFault is = is
  output_later (InputLimit taken) is = is
  output_later (Abandoned worker) is = is
  output_later WriteFault is = short_later is
  output_later WantMemory is = short_later is
  output_later Ended is = record { minor = is.minor; closes_in = is.closes_in; paid = later is.paid; whole = is.whole }
  output_later Shut is = record { minor = is.minor; closes_in = is.closes_in; paid = later is.paid; whole = is.whole }
  output_later (Malformed at) is = record { minor = is.minor; closes_in = is.closes_in; paid = later is.paid; whole = is.whole }
  output_later (Truncated have) is = record { minor = is.minor; closes_in = is.closes_in; paid = later is.paid; whole = is.whole }
  output_later (Limit many bytes) is = record { minor = is.minor; closes_in = is.closes_in; paid = later is.paid; whole = is.whole }
