-- What a framer gives, before and behind a part, and at a bad place.
use Rattle.std.proofs.Common.{◌≡◌, ◌↔◌, ℕ, ◌<◌, Option, Some, None, List, [], ◌∷◌, ◌++◌, length, take, drop, ap, subst, ◌∙◌, sym, arith, MatchOption, append_assoc, length-drop}
use Rattle.std.proofs.lemmas.List.{take-append-drop, length-take-le}
use Rattle.giop_frame.specs.declared.rules.Look.TheVariants.{Whole, Bad}
use Rattle.giop_frame.specs.declared.why.Why.{Why}
use Rattle.giop_frame.specs.declared.next.Next.{Next}
use Rattle.giop_frame.specs.declared.next.Next.TheVariants as answer
use Rattle.giop_frame.specs.Rules.{look_at}
use Rattle.giop_frame.specs.Stream.{Framed, End, bad_place, after, completed, StreamFrom}
use Rattle.giop_frame.specs.Framing.{Framing}
use Rattle.std.specs.Option.{option_or}
use Rattle.giop_frame.specs.Framer.{FramerGives, GiveTheSame, FramerAnswers, TakesPart, JoinsPart, minor_among, reach}
use Rattle.giop_frame.proofs.Looking.{whole_from_look, look_from_whole, whole_front}
use Rattle.giop_frame.proofs.Streams.{stream_put, stream_behind, one_stream, bad_stream}
use Rattle.giop_frame.proofs.First.{option_or-None}

-- what a framer gives that hasn't met a bad place
pub stream_given : (f : Framing) (text : List ℕ) (messages : List Framed) (end : End) → f.closed ≡ None
    → FramerGives f text messages end → StreamFrom f.limit f.reading (f.unread ++ text) messages end
stream_given f text messages end none g =
    subst (λ (o : Option Why). MatchOption o (StreamFrom f.limit f.reading (f.unread ++ text) messages end)
    (λ why. (messages ≡ []) × (end ≡ bad_place f.reading.place why))) none g

pub gives_stream : (f : Framing) (text : List ℕ) (messages : List Framed) (end : End) → f.closed ≡ None
    → StreamFrom f.limit f.reading (f.unread ++ text) messages end → FramerGives f text messages end
gives_stream f text messages end none s =
    subst (λ (o : Option Why). MatchOption o (StreamFrom f.limit f.reading (f.unread ++ text) messages end)
    (λ why. (messages ≡ []) × (end ≡ bad_place f.reading.place why))) (sym none) s

cancel : (xs ys zs : List Framed) → xs ++ ys ≡ xs ++ zs → ys ≡ zs
cancel [] ys zs e = e
cancel (x ∷ xs) ys zs e = let tail : xs ++ ys ≡ xs ++ zs = cc in cancel xs ys zs tail

-- the framer behind the part of this length, whatever was given first
pub behind : Framing → ℕ → Option ℕ → Framing
behind f n first = record f { reading = after f.reading (take n f.unread); unread = drop n f.unread; first = first }

part_good : (f : Framing) (n : ℕ) → look_at f.limit f.reading.pending f.unread ≡ Whole n
    → look_at f.limit f.reading.pending (take n f.unread) ≡ Whole (length (take n f.unread))
part_good f n seen =
    let w = whole_from_look f.limit f.reading.pending f.unread n seen in
    look_from_whole f.limit f.reading.pending (take n f.unread) n (whole_front f.limit f.reading.pending f.unread n w)
    ∙ ap Whole (sym (length-take-le n f.unread w.whole))

pieces : (n : ℕ) (text more : List ℕ) → take n text ++ (drop n text ++ more) ≡ text ++ more
pieces n text more = sym (append_assoc (take n text) (drop n text) more) ∙ ap (λ (t : List ℕ). t ++ more) (take-append-drop n text)

behind_gives : (f : Framing) (n : ℕ) (first : Option ℕ) (text : List ℕ) (messages : List Framed) (end : End) → f.closed ≡ None
    → look_at f.limit f.reading.pending f.unread ≡ Whole n
    → FramerGives (behind f n first) text messages end ↔ FramerGives f text (completed f.reading (take n f.unread) ++ messages) end
unfolding behind
behind_gives f n first text messages end none seen =
    let p = take n f.unread in
    let rest = drop n f.unread ++ text in
    let good = part_good f n seen in (
      (λ g. gives_stream f text (completed f.reading p ++ messages) end none
          (subst (λ (t : List ℕ). StreamFrom f.limit f.reading t (completed f.reading p ++ messages) end) (pieces n f.unread text)
          (stream_put f.limit f.reading p rest messages end good (stream_given (behind f n first) text messages end none g)))),
      (λ g.
          let whole = subst (λ (t : List ℕ). StreamFrom f.limit f.reading t (completed f.reading p ++ messages) end) (sym (pieces n f.unread text))
          (stream_given f text (completed f.reading p ++ messages) end none g) in
          let b = stream_behind f.limit f.reading p rest (completed f.reading p ++ messages) end good whole in
          let same : b.others ≡ messages = sym (cancel (completed f.reading p) messages b.others b.all) in
          gives_stream (behind f n first) text messages end none
          (subst (λ (ms : List Framed). StreamFrom f.limit (after f.reading p) rest ms end) same b.stream)),
    )

-- a part that was read, with the messages that it completed
pub taken_gives : (f g : Framing) (n : ℕ) (done : List Framed) → f.closed ≡ None → look_at f.limit f.reading.pending f.unread ≡ Whole n → TakesPart f n done g
    → (text : List ℕ) (messages : List Framed) (end : End) → FramerGives g text messages end ↔ FramerGives f text (done ++ messages) end
unfolding behind
taken_gives f g n done none seen t text messages end =
    let first : Option ℕ = option_or f.first (minor_among done) in
    subst (λ (k : Framing). FramerGives k text messages end ↔ FramerGives f text (done ++ messages) end) (sym t.goes_on)
    (subst (λ (ms : List Framed). FramerGives (behind f n first) text messages end ↔ FramerGives f text (ms ++ messages) end) (sym t.completes)
    (behind_gives f n first text messages end none seen))

pub taken_reach : (f g : Framing) (n : ℕ) (done : List Framed) → look_at f.limit f.reading.pending f.unread ≡ Whole n → TakesPart f n done g → reach g ≡ reach f
taken_reach f g n done seen t =
    let w = whole_from_look f.limit f.reading.pending f.unread n seen in
    ap reach t.goes_on ∙ omega (arith, length-take-le n f.unread w.whole, length-drop n f.unread, w.whole)

pub taken_shorter : (f g : Framing) (n : ℕ) (done : List Framed) → look_at f.limit f.reading.pending f.unread ≡ Whole n → TakesPart f n done g
    → length g.unread < length f.unread
taken_shorter f g n done seen t =
    let w = whole_from_look f.limit f.reading.pending f.unread n seen in
    omega (arith, ap (λ (k : Framing). length k.unread) t.goes_on, length-drop n f.unread, w.whole, w.size)

-- a part that completed nothing
pub joins_part : (f g : Framing) (n : ℕ) → f.closed ≡ None → look_at f.limit f.reading.pending f.unread ≡ Whole n → TakesPart f n [] g → JoinsPart f g
joins_part f g n none seen t =
    record {
      same = taken_gives f g n [] none seen t;
      first = ap (λ (k : Framing). k.first) t.goes_on ∙ option_or-None f.first;
      unclosed = ap (λ (k : Framing). k.closed) t.goes_on ∙ none;
      shorter = taken_shorter f g n [] seen t;
    }

-- a bad place in front
pub bad_given : (f : Framing) (why : Why) → f.closed ≡ None → look_at f.limit f.reading.pending f.unread ≡ Bad why → (text : List ℕ)
    → FramerGives f text [] (bad_place f.reading.place why)
bad_given f why none seen text =
    gives_stream f text [] (bad_place f.reading.place why) none (bad_stream f.limit f.reading f.unread text why seen)

pub closed_gives : (f : Framing) (why : Why) → f.closed ≡ None → look_at f.limit f.reading.pending f.unread ≡ Bad why
    → GiveTheSame f (record f { closed = Some why })
closed_gives f why none seen text messages end =
    let place = bad_place f.reading.place why in (
      (λ (g : (messages ≡ []) × (end ≡ place)).
          subst (λ (e : End). FramerGives f text messages e) (sym g.1)
          (subst (λ (ms : List Framed). FramerGives f text ms place) (sym g.0) (bad_given f why none seen text))),
      (λ g.
          let same = one_stream f.limit f.reading (f.unread ++ text) messages [] end place (stream_given f text messages end none g)
          (bad_stream f.limit f.reading f.unread text why seen) in
          (same.messages_same, same.end_same)),
    )

-- a framer that met a bad place, where its value is also f
pub closed_answers : (f g : Framing) (why : Why) (n : Next) → n ≡ answer.Bad f.reading.place why → f ≡ g → g.closed ≡ None
    → look_at g.limit g.reading.pending g.unread ≡ Bad why → FramerAnswers g n (record f { closed = Some why })
closed_answers f g why n says same none seen =
    subst (λ (m : Next). FramerAnswers g m (record f { closed = Some why })) (sym says)
    (subst (λ (k : Framing). FramerAnswers g (answer.Bad k.reading.place why) (record k { closed = Some why })) (sym same)
    (bad_given g why none seen, closed_gives g why none seen))
