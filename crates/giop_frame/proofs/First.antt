-- The minor version of the first message, as a framer knows it.
use Rattle.std.proofs.Common.{◌≡◌, ◌↔◌, ℕ, List, [], ◌∷◌, ◌++◌, Option, Some, None, true, false, Result, Ok, Err, OnOk, IsSome, MatchOption, refl, ap, subst, sym, ◌∙◌, append_assoc, append-nil}
use Rattle.std.specs.Option.{option_or, unwrap_or}
use Rattle.giop_frame.specs.declared.why.Why.{Why}
use Rattle.giop_frame.specs.declared.next.Next.{Next}
use Rattle.giop_frame.specs.declared.next.Next.TheVariants as answer
use Rattle.giop_frame.specs.Part.{minor_of}
use Rattle.giop_frame.specs.Stream.{Framed, End, left_over, bad_place, first_minor, start, Stream, StreamFrom, IsFirstMinor}
use Rattle.giop_frame.specs.Framing.{Framing}
use Rattle.giop_frame.specs.Framer.{FramerGives, FramerAnswers, GiveTheSame, HasFirst, HasGiven, KeepsFirst}
use Rattle.giop_frame.proofs.GoingOn.{framer_goes_on}
use Rattle.giop_frame.proofs.Streams.{one_stream}

pub on_ok : {T E : Type 0} (r : Result T E) (P Q : Type 0) → (P → Q) → OnOk r P → OnOk r Q
on_ok (Ok x) P Q f p = f p
on_ok (Err e) P Q f p = tt

pub none_else : (o : Option ℕ) → ((x : ℕ) → o ≡ Some x → ⊥) → o ≡ None
none_else None other = refl
none_else (Some x) other = absurd (other x refl)

pub option_or-None : (o : Option ℕ) → option_or o None ≡ o
option_or-None None = refl
option_or-None (Some x) = refl

unwrap_noted : (o : Option ℕ) (x y : ℕ) → unwrap_or (option_or o (Some x)) y ≡ unwrap_or o x
unwrap_noted None x y = refl
unwrap_noted (Some z) x y = refl

-- what a framer gives that is fed a piece, which changes nothing where it is closed
pub closed_fed : (f : Framing) (piece : List ℕ) (closed : Option Why) → f.closed ≡ closed → IsSome closed → (text : List ℕ) (messages : List Framed)
    (end : End) → FramerGives f text messages end ↔ FramerGives f (piece ++ text) messages end
closed_fed f piece None is some text messages end = absurd (let e : false ≡ true = some in cc)
closed_fed f piece (Some why) is some text messages end = rw is ((λ x. x), (λ x. x))

pub pushed_fed : (f g : Framing) (piece : List ℕ) → g ≡ record f { unread = f.unread ++ piece } → (text : List ℕ) (messages : List Framed) (end : End)
    → FramerGives g text messages end ↔ FramerGives f (piece ++ text) messages end
pushed_fed f g piece is text messages end =
    subst (λ (k : Framing). FramerGives k text messages end ↔ FramerGives f (piece ++ text) messages end) (sym is)
    (subst (λ (t : List ℕ). FramerGives (record f { unread = f.unread ++ piece }) text messages end
    ↔ MatchOption f.closed (StreamFrom f.limit f.reading t messages end) (λ why. (messages ≡ []) × (end ≡ bad_place f.reading.place why)))
    (append_assoc f.unread piece text) ((λ x. x), (λ x. x)))

-- nothing was fed
pub first_fresh : (limit : ℕ) (f : Framing) → HasGiven limit [] [] f → f.first ≡ None → HasFirst limit [] f
first_fresh limit f given none text messages end gives =
    (messages, (given text messages end).0 gives, ap (λ (o : Option ℕ). unwrap_or o (first_minor messages)) (sym none))

module _ (limit : ℕ) (fed : List ℕ) (f g : Framing) (knows : HasFirst limit fed f) where
  -- it gives the same
  pub first_kept : GiveTheSame f g → g.first ≡ f.first → HasFirst limit fed g
  first_kept same noted text messages end gives =
      let whole = knows text messages end ((same text messages end).0 gives) in
      (whole.0, whole.1, whole.2 ∙ ap (λ (o : Option ℕ). unwrap_or o (first_minor messages)) (sym noted))

  -- a piece was fed
  pub first_fed : (piece : List ℕ)
      → ((text : List ℕ) (messages : List Framed) (end : End) → FramerGives g text messages end ↔ FramerGives f (piece ++ text) messages end)
      → g.first ≡ f.first → HasFirst limit (fed ++ piece) g
  first_fed piece more noted text messages end gives =
      let whole = knows (piece ++ text) messages end ((more text messages end).0 gives) in (
        whole.0,
        subst (λ (t : List ℕ). Stream limit t whole.0 end) (sym (append_assoc fed piece text)) whole.1,
        whole.2 ∙ ap (λ (o : Option ℕ). unwrap_or o (first_minor messages)) (sym noted),
      )

  -- it answered
  pub first_behind : (n : Next) → FramerAnswers f n g → KeepsFirst f n g → HasFirst limit fed g
  first_behind (answer.Message m) answers noted text messages end gives =
      let whole = knows text (m ∷ messages) end ((answers text messages end).0 gives) in (
        whole.0,
        whole.1,
        whole.2 ∙ (sym (unwrap_noted f.first (minor_of m.bytes) (first_minor messages))
            ∙ ap (λ (o : Option ℕ). unwrap_or o (first_minor messages)) (sym noted)),
      )
  first_behind (answer.NeedMore have) answers noted text messages end gives =
      first_kept answers.1 (noted ∙ option_or-None f.first) text messages end gives
  first_behind (answer.Bad at why) answers noted text messages end gives =
      first_kept answers.1 (noted ∙ option_or-None f.first) text messages end gives

module _ (limit : ℕ) (fed : List ℕ) (f : Framing) (knows : HasFirst limit fed f) where
  -- what is given next tells it
  told_by : (messages : List Framed) (end : End) → FramerGives f [] messages end → (minor : ℕ) → unwrap_or f.first (first_minor messages) ≡ minor
      → IsFirstMinor limit fed minor
  told_by messages end gives minor is others other stream =
      let whole = knows [] messages end gives in
      let here : Stream limit fed whole.0 end = subst (λ (t : List ℕ). Stream limit t whole.0 end) (append-nil fed) whole.1 in
      let same = one_stream limit start fed others whole.0 other end stream here in
      ap first_minor same.messages_same ∙ (whole.2 ∙ is)

  -- the first message was given before
  pub first_given : (minor : ℕ) → f.first ≡ Some minor → IsFirstMinor limit fed minor
  first_given minor noted =
      let on = framer_goes_on f [] in
      told_by on.messages on.end on.gives minor (ap (λ (o : Option ℕ). unwrap_or o (first_minor on.messages)) noted)

  -- it is given next
  pub first_next : (g : Framing) (m : Framed) → f.first ≡ None → FramerAnswers f (answer.Message m) g → IsFirstMinor limit fed (minor_of m.bytes)
  first_next g m none answers =
      let on = framer_goes_on g [] in
      told_by (m ∷ on.messages) on.end ((answers [] on.messages on.end).0 on.gives) (minor_of m.bytes)
      (ap (λ (o : Option ℕ). unwrap_or o (minor_of m.bytes)) none)

  -- there is none
  pub first_waits : (g : Framing) (have : ℕ) → f.first ≡ None → FramerAnswers f (answer.NeedMore have) g → IsFirstMinor limit fed 2
  first_waits g have none answers = told_by [] (left_over have) answers.0 2 (ap (λ (o : Option ℕ). unwrap_or o 2) none)

  pub first_fails : (g : Framing) (at : ℕ) (why : Why) → f.first ≡ None → FramerAnswers f (answer.Bad at why) g → IsFirstMinor limit fed 2
  first_fails g at why none answers = told_by [] (bad_place at why) (answers.0 []) 2 (ap (λ (o : Option ℕ). unwrap_or o 2) none)
