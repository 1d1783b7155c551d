-- A framer at any point goes on, whatever it is fed.
use Rattle.std.proofs.Common.{◌≡◌, List, [], ◌++◌, ℕ, Option, Some, None, MatchOption, refl, subst, sym}
use Rattle.giop_frame.specs.declared.why.Why.{Why}
use Rattle.giop_frame.specs.Framing.{Framing}
use Rattle.giop_frame.specs.Framer.{GoesOn}
use Rattle.giop_frame.specs.Stream.{Framed, End, bad_place, StreamFrom}
use Rattle.giop_frame.proofs.Streams.{some_stream}

-- what a framer gives that is closed so
abbrev GivesAs : Framing → List ℕ → List Framed → End → Option Why → Type 0
GivesAs f text messages end closed =
    MatchOption closed (StreamFrom f.limit f.reading (f.unread ++ text) messages end) (λ why. (messages ≡ []) × (end ≡ bad_place f.reading.place why))

goes_on_as : (f : Framing) (text : List ℕ) (closed : Option Why) → f.closed ≡ closed → GoesOn f text
goes_on_as f text None is =
    let s = some_stream f.limit f.reading (f.unread ++ text) in
    record { messages = s.messages; end = s.end; gives = subst (GivesAs f text s.messages s.end) (sym is) s.stream }
goes_on_as f text (Some why) is =
    let end = bad_place f.reading.place why in
    record { messages = []; end = end; gives = subst (GivesAs f text [] end) (sym is) (refl, refl) }

pub framer_goes_on : (f : Framing) (text : List ℕ) → GoesOn f text
framer_goes_on f text = goes_on_as f text f.closed refl
