-- What the calls of a framer say together: a run over pieces keeps `HasGiven`, and ends in the stream.
use Rattle.std.proofs.Common.{◌↔◌, ℕ, List, [], ◌∷◌, ◌++◌, subst, sym, append_assoc, append-nil}
use Rattle.giop_frame.specs.declared.why.Why.{Why}
use Rattle.giop_frame.specs.declared.next.Next.TheVariants as answer
use Rattle.giop_frame.specs.Stream.{Framed, End, left_over, bad_place, Stream}
use Rattle.giop_frame.specs.Framing.{Framing}
use Rattle.giop_frame.specs.Framer.{FramerGives, HasGiven, GiveTheSame, FramerAnswers}

-- a piece was fed
pub given_fed : (limit : ℕ) (fed piece : List ℕ) (given : List Framed) (f g : Framing) → HasGiven limit fed given f
    → ((text : List ℕ) (messages : List Framed) (end : End) → FramerGives g text messages end ↔ FramerGives f (piece ++ text) messages end)
    → HasGiven limit (fed ++ piece) given g
given_fed limit fed piece given f g h more text messages end =
    subst (λ (t : List ℕ). FramerGives g text messages end ↔ Stream limit t (given ++ messages) end) (sym (append_assoc fed piece text)) (
      (λ x. (h (piece ++ text) messages end).0 ((more text messages end).0 x)),
      (λ x. (more text messages end).1 ((h (piece ++ text) messages end).1 x)),
    )

-- a message was given
pub given_message : (limit : ℕ) (fed : List ℕ) (given : List Framed) (m : Framed) (f g : Framing) → HasGiven limit fed given f
    → FramerAnswers f (answer.Message m) g → HasGiven limit fed (given ++ m ∷ []) g
given_message limit fed given m f g h took text messages end =
    subst (λ (ms : List Framed). FramerGives g text messages end ↔ Stream limit (fed ++ text) ms end) (sym (append_assoc given (m ∷ []) messages)) (
      (λ x. (h text (m ∷ messages) end).0 ((took text messages end).0 x)),
      (λ x. (took text messages end).1 ((h text (m ∷ messages) end).1 x)),
    )

-- nothing changed: memory was refused, or no message came
pub given_same : (limit : ℕ) (fed : List ℕ) (given : List Framed) (f g : Framing) → HasGiven limit fed given f → GiveTheSame f g → HasGiven limit fed given g
given_same limit fed given f g h same text messages end = (
  (λ x. (h text messages end).0 ((same text messages end).0 x)),
  (λ x. (same text messages end).1 ((h text messages end).1 x)),
)

-- no whole message is left
pub stream_waits : (limit : ℕ) (fed : List ℕ) (given : List Framed) (have : ℕ) (f g : Framing) → HasGiven limit fed given f
    → FramerAnswers f (answer.NeedMore have) g → Stream limit fed given (left_over have)
stream_waits limit fed given have f g h waits =
    subst (λ (ms : List Framed). Stream limit fed ms (left_over have)) (append-nil given)
    (subst (λ (t : List ℕ). Stream limit t (given ++ []) (left_over have)) (append-nil fed) ((h [] [] (left_over have)).0 waits.0))

-- a place is bad, whatever follows
pub stream_fails : (limit : ℕ) (fed text : List ℕ) (given : List Framed) (at : ℕ) (why : Why) (f g : Framing) → HasGiven limit fed given f
    → FramerAnswers f (answer.Bad at why) g → Stream limit (fed ++ text) given (bad_place at why)
stream_fails limit fed text given at why f g h fails =
    subst (λ (ms : List Framed). Stream limit (fed ++ text) ms (bad_place at why)) (append-nil given) ((h text [] (bad_place at why)).0 (fails.0 text))

pub stream_fails_here : (limit : ℕ) (fed : List ℕ) (given : List Framed) (at : ℕ) (why : Why) (f g : Framing) → HasGiven limit fed given f
    → FramerAnswers f (answer.Bad at why) g → Stream limit fed given (bad_place at why)
stream_fails_here limit fed given at why f g h fails =
    subst (λ (t : List ℕ). Stream limit t given (bad_place at why)) (append-nil fed) (stream_fails limit fed [] given at why f g h fails)
