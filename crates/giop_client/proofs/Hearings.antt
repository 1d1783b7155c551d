-- What the first message of a stream says, told while the stream is read.
use Rattle.std.proofs.Common.{◌≡◌, ◌↔◌, ℕ, ◌+◌, ◌<◌, ◌≤◌, Bool, true, false, List, [], ◌∷◌, ◌++◌, length, Option, Some, None, refl, sym, ap, ◌∙◌, subst, arith, append-nil}
use Rattle.std.specs.Prelude.{nat_le, IsSomeAnd, IfNone, if◌then◌else◌}
use Rattle.giop_frame.specs.declared.why.Why.{Why}
use Rattle.giop_frame.specs.declared.next.Next.TheVariants as answer
use Rattle.giop_frame.specs.Stream.{Framed, End, left_over, bad_place, Stream}
use Rattle.giop_frame.specs.Framing.{Framing}
use Rattle.giop_frame.specs.Framer.{FramerGives, HasGiven, GoesOn, FramerAnswers}
use Rattle.giop_frame.proofs.Cutting.{given_fed, given_message, given_same, stream_waits, stream_fails_here}
use Rattle.giop_client.specs.declared.hop.Hop.{Hop}
use Rattle.giop_client.specs.declared.hop.Hop.TheVariants as hop
use Rattle.poa_base.specs.declared.limits.TheConstants.{MESSAGE_LIMIT}
use Rattle.giop_client.specs.declared.hearing.TheConstants.{READ_LIMIT}
use Rattle.giop_client.specs.Reply.{MessageSays}
use Rattle.giop_client.specs.Hop.{IsHop, said_so_far, StreamSays}
use Rattle.giop_client.specs.Talking.{Hears}

-- a framer before a piece and behind it
pub record Fed (piece : List ℕ) (f g : Framing) : Type 0 where
  pub fed : (text : List ℕ) (messages : List Framed) (end : End) → FramerGives g text messages end ↔ FramerGives f (piece ++ text) messages end

given : (text piece : List ℕ) (f g : Framing) → HasGiven MESSAGE_LIMIT text [] f → Fed piece f g → HasGiven MESSAGE_LIMIT (text ++ piece) [] g
given text piece f g has fed = given_fed MESSAGE_LIMIT text piece [] f g has fed.fed

-- the stream of a text of which one message was given
first_stream : (text : List ℕ) (m : Framed) (g : Framing) (on : GoesOn g []) → HasGiven MESSAGE_LIMIT text (m ∷ []) g
    → Stream MESSAGE_LIMIT text (m ∷ on.messages) on.end
first_stream text m g on has =
    subst (λ (t : List ℕ). Stream MESSAGE_LIMIT t (m ∷ on.messages) on.end) (append-nil text) ((has [] on.messages on.end).0 on.gives)

-- a message came
pub hears_message : (id : ℕ) (text piece : List ℕ) (m : Framed) (said : Hop) (f g h : Framing) → ((k : Framing) (t : List ℕ) → GoesOn k t)
    → HasGiven MESSAGE_LIMIT text [] f → Fed piece f g → FramerAnswers g (answer.Message m) h → MessageSays id m.bytes said
    → Hears id (text ++ piece) (Some said) h
hears_message id text piece m said f g h goes_on has fed took says =
    let on : GoesOn h [] = goes_on h [] in
    let one : HasGiven MESSAGE_LIMIT (text ++ piece) (m ∷ []) h =
    given_message MESSAGE_LIMIT (text ++ piece) [] m g h (given text piece f g has fed) took in
    record {
      hop = record { messages = m ∷ on.messages; end = on.end; stream = first_stream (text ++ piece) m h on one; says = says };
      given = tt;
    }

-- no message yet, and perhaps none will be waited for
if_none : (o : Option Hop) (X : Type 0) → X → IfNone o X
if_none None X x = x
if_none (Some said) X x = tt

pub hears_waiting : (id have heard : ℕ) (text piece : List ℕ) (said : Option Hop) (f g h : Framing) → length (text ++ piece) ≡ heard
    → said ≡ said_so_far heard → HasGiven MESSAGE_LIMIT text [] f → Fed piece f g → FramerAnswers g (answer.NeedMore have) h
    → Hears id (text ++ piece) said h
hears_waiting id have heard text piece said f g h counted is has fed waits =
    let begun = given text piece f g has fed in
    record {
      hop = record {
        messages = [];
        end = left_over have;
        stream = stream_waits MESSAGE_LIMIT (text ++ piece) [] have g h begun waits;
        says = is ∙ ap said_so_far (sym counted);
      };
      given = if_none said (HasGiven MESSAGE_LIMIT (text ++ piece) [] h) (given_same MESSAGE_LIMIT (text ++ piece) [] g h begun waits.1);
    }

-- a bad place
pub hears_bad : (id at : ℕ) (why : Why) (text piece : List ℕ) (f g h : Framing) → HasGiven MESSAGE_LIMIT text [] f → Fed piece f g
    → FramerAnswers g (answer.Bad at why) h → Hears id (text ++ piece) (Some hop.BadReply) h
hears_bad id at why text piece f g h has fed fails =
    record {
      hop = record {
        messages = [];
        end = bad_place at why;
        stream = stream_fails_here MESSAGE_LIMIT (text ++ piece) [] at why g h (given text piece f g has fed) fails;
        says = refl;
      };
      given = tt;
    }
