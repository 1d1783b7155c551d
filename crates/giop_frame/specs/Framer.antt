-- What a framer still gives.
use Rattle.std.specs.Prelude.{◌≡◌, ◌↔◌, ℕ, ◌+◌, ◌<◌, ◌≤◌, List, [], ◌∷◌, ◌++◌, Option, None, Some, MatchOption, length, take, drop}
use Rattle.std.specs.Option.{option_or, unwrap_or}
use Rattle.giop_frame.specs.declared.header.TheConstants.{HEADER}
use Rattle.giop_frame.specs.declared.next.Next.{Next}
use Rattle.giop_frame.specs.declared.next.Next.TheVariants as answer
use Rattle.giop_frame.specs.Part.{minor_of}
use Rattle.giop_frame.specs.Stream.{Framed, End, left_over, bad_place, after, completed, first_minor, StreamFrom, Stream}
use Rattle.giop_frame.specs.Framing.{Framing}

-- fed this text from here on, the framer gives these messages, and then says that this is the end
abbrev pub FramerGives : Framing → List ℕ → List Framed → End → Type 0
FramerGives f text messages end =
    MatchOption f.closed (StreamFrom f.limit f.reading (f.unread ++ text) messages end)
    (λ why. (messages ≡ []) × (end ≡ bad_place f.reading.place why))

-- a framer that was fed these bytes and has given these messages: it goes on as the stream of all bytes does
abbrev pub HasGiven : ℕ → List ℕ → List Framed → Framing → Type 0
HasGiven limit fed given f =
    (text : List ℕ) (messages : List Framed) (end : End) → FramerGives f text messages end
    ↔ Stream limit (fed ++ text) (given ++ messages) end

-- fed this text from here on, the framer gives some messages, and then says how it ends
pub record GoesOn (f : Framing) (text : List ℕ) : Type 0 where
  pub messages : List Framed
  pub end : End
  pub gives : FramerGives f text messages end

-- two framers give the same, whatever they are fed
abbrev pub GiveTheSame : Framing → Framing → Type 0
GiveTheSame f g = (text : List ℕ) (messages : List Framed) (end : End) → FramerGives g text messages end ↔ FramerGives f text messages end

-- the place behind the last byte that was fed
abbrev pub reach : Framing → ℕ
reach f = f.reading.place + length f.unread

-- what an answer says, and what is left to give after it
abbrev pub FramerAnswers : Framing → Next → Framing → Type 0
FramerAnswers f (answer.Message m) g = (text : List ℕ) (messages : List Framed) (end : End) → FramerGives g text messages end
    ↔ FramerGives f text (m ∷ messages) end
FramerAnswers f (answer.NeedMore have) g = FramerGives f [] [] (left_over have) × GiveTheSame f g
FramerAnswers f (answer.Bad at why) g = ((text : List ℕ) → FramerGives f text [] (bad_place at why)) × GiveTheSame f g

-- the minor version of the message that an answer gives
abbrev pub minor_given : Next → Option ℕ
minor_given (answer.Message m) = Some (minor_of m.bytes)
minor_given (answer.NeedMore have) = None
minor_given (answer.Bad at why) = None

-- the minor version of the first message is kept, or noted with the first message
abbrev pub KeepsFirst : Framing → Next → Framing → Type 0
KeepsFirst f n g = g.first ≡ option_or f.first (minor_given n)

-- a message takes unread bytes away, so that a loop over the messages ends
abbrev pub TakesBytes : Framing → Next → Framing → Type 0
TakesBytes f (answer.Message m) g = length g.unread < length f.unread
TakesBytes f (answer.NeedMore have) g = Unit {0}
TakesBytes f (answer.Bad at why) g = Unit {0}

-- a message has no more than so many bytes behind a header
abbrev pub IsWithin : ℕ → Next → Type 0
IsWithin limit (answer.Message m) = length m.bytes ≤ HEADER + limit
IsWithin limit (answer.NeedMore have) = Unit {0}
IsWithin limit (answer.Bad at why) = Unit {0}

-- the minor version of the first of these messages
abbrev pub minor_among : List Framed → Option ℕ
minor_among [] = None
minor_among (m ∷ messages) = Some (minor_of m.bytes)

-- a framer that was fed this text: whatever it is fed from here on, the first message of all is the one that it gave
-- first, or else the first that it gives from here on
abbrev pub HasFirst : ℕ → List ℕ → Framing → Type 0
HasFirst limit fed f =
    (text : List ℕ) (messages : List Framed) (end : End) → FramerGives f text messages end
    → (all : List Framed) × Stream limit (fed ++ text) all end × (first_minor all ≡ unwrap_or f.first (first_minor messages))

-- a framer that read the part of this length in front, which completed these messages
pub record TakesPart (f : Framing) (size : ℕ) (messages : List Framed) (g : Framing) : Type 0 where
  pub completes : messages ≡ completed f.reading (take size f.unread)
  pub goes_on : g ≡ record f {
    reading = after f.reading (take size f.unread);
    unread = drop size f.unread;
    first = option_or f.first (minor_among messages);
  }

-- a framer that joined a part, and gives what it would have given
pub record JoinsPart (f g : Framing) : Type 0 where
  pub same : GiveTheSame f g
  pub first : g.first ≡ f.first
  pub unclosed : g.closed ≡ None
  pub shorter : length g.unread < length f.unread
