-- What the answers of a framer and of a message say of what is to be heard.
use Rattle.std.proofs.Common.{◌≡◌, ℕ, suc, ◌+◌, true, false, List, [], ◌∷◌, ◌++◌, length, drop, Result, Ok, Err, OnOk, IfOk, refl, sym, ap, subst, ◌∙◌}
use Rattle.giop_frame.specs.declared.Next.TheVariants as next
use Rattle.giop_frame.specs.Stream.{Framed, left_over}
use Rattle.giop_frame.specs.Framing.{Framing}
use Rattle.giop_frame.specs.Framer.{FramerAnswers}
use Rattle.giop_frame.proofs.GoingOn.{framer_goes_on as some_given}
use Rattle.session_laws.proofs.Answering.{message_headed}
use Rattle.session_laws.proofs.Calls.{headed_said}
use Rattle.std.proofs.Math.Seq.{drop-append-add}
use Rattle.text_words.specs.Cuts.{lacks}
use Rattle.session_laws.specs.Hearing.{bad, over}
use Rattle.session_laws.specs.Lines.{is_long, without_return}
use Rattle.session_laws.specs.Expecting.{Cutting, OfFramer, OfLines}
use Rattle.session_laws.proofs.Messages.{framer_call, framer_cancel, framer_closing, framer_malformed, framer_same, FramerGoesOn}
use Rattle.session_laws.proofs.Lines.{behind_line, front_long, line_long, line_read, lines_over}
use Rattle.session_laws.proofs.Said.{spoken_said}
use Rattle.session_laws.specs.declared.told.Told.{Told}
use Rattle.session_laws.specs.declared.told.Told.TheVariants as told
use Rattle.session_laws.specs.HearingPieces.{Asks, AsTold, Speaks}

given_on : (f : Framing) (text : List ℕ) → FramerGoesOn f text
given_on f text = (let given = some_given f text in (given.messages, given.end, given.gives))

-- a message that a framer gives
pub told_message : (f g : Framing) (m : Framed) (t : Told) → FramerAnswers f (next.Message m) g → Asks m t → AsTold t (OfFramer f) (OfFramer g)
told_message f g m (told.Call call size) answers asks = (
  (λ text more stop w. subst (λ (n : ℕ). OfFramer f text (record { call = call; size = n } ∷ more) stop) (sym asks.1)
      (framer_call f g text more stop w m call answers asks.0)),
  asks.2,
  headed_said call (message_headed m.bytes call asks.0),
)
told_message f g m told.Nothing answers asks = λ text more stop w. framer_cancel f g text more stop w m asks.0 answers asks.1
told_message f g m (told.More have) answers asks = absurd asks
told_message f g m told.Closed answers asks = λ next. framer_closing f g next m answers (given_on g next) asks
told_message f g m (told.Bad at) answers asks = λ next.
    subst (λ (n : ℕ). OfFramer f next [] (bad n)) (sym asks.0) (framer_malformed f g next m answers (given_on g next) asks.1 asks.2)

-- a framer that gives no message
pub told_more : (f g : Framing) (have : ℕ) → FramerAnswers f (next.NeedMore have) g → AsTold (told.More have) (OfFramer f) (OfFramer g)
told_more f g have answers = (
  (λ text more stop w. framer_same f g text more stop w answers.1),
  record { messages = []; end = left_over have; gives = (answers.1 [] [] (left_over have)).1 answers.0; heard = (refl, refl) },
)

-- a line that is read
pub told_line : (l : Cutting) (raw rest : List ℕ) (t : Told) → l.unread ≡ raw ++ 10 ∷ rest → lacks 10 raw ≡ true → is_long raw ≡ false
    → Speaks l.number (without_return raw) t → AsTold t (OfLines l) (OfLines (behind_line l raw rest))
told_line l raw rest (told.Call call size) stands clear short speaks = (
  (λ text more stop heard. subst (λ hs. OfLines l text (hs ++ more) stop) speaks.0 (line_read l raw rest text stands clear more stop short heard)),
  speaks.1,
  spoken_said l.number (without_return raw) call size speaks.0,
)
told_line l raw rest told.Nothing stands clear short speaks =
    λ text more stop heard. subst (λ hs. OfLines l text (hs ++ more) stop) speaks (line_read l raw rest text stands clear more stop short heard)
told_line l raw rest (told.More have) stands clear short speaks = absurd speaks
told_line l raw rest told.Closed stands clear short speaks = absurd speaks
told_line l raw rest (told.Bad at) stands clear short speaks = absurd speaks

pub on_ok : {T E : Type 0} (r : Result T E) (P Q : Type 0) → (P → Q) → OnOk r P → OnOk r Q
on_ok (Ok x) P Q f p = f p
on_ok (Err e) P Q f p = p

pub if_ok : {T E : Type 0} (r : Result T E) (P Q : T → Type 0) → ((x : T) → P x → Q x) → IfOk r P → IfOk r Q
if_ok (Ok x) P Q f p = f x p
if_ok (Err e) P Q f p = p

-- what a cutter says, by the bytes that it looks at
module _ (l : Cutting) (place : ℕ) (unread : List ℕ) (at : place ≡ l.place) (looks : unread ≡ l.unread) where
  pub cut_long : lacks 10 unread ≡ true → is_long unread ≡ true → AsTold (told.Bad place) (OfLines l) (OfLines l)
  cut_long clear long = λ next.
      subst (λ (p : ℕ). OfLines l next [] (bad p)) (sym at)
      (front_long l next (subst (λ u. lacks 10 u ≡ true) looks clear) (subst (λ u. is_long u ≡ true) looks long))

  pub cut_over : lacks 10 unread ≡ true → is_long unread ≡ false → AsTold (told.More (length unread)) (OfLines l) (OfLines l)
  cut_over clear short = (
    (λ text more stop heard. heard),
    subst (λ (u : List ℕ). OfLines l [] [] (over (length u))) (sym looks)
        (lines_over l (subst (λ u. lacks 10 u ≡ true) looks clear) (subst (λ u. is_long u ≡ false) looks short)),
  )

  module _ (raw rest : List ℕ) (parts : unread ≡ raw ++ 10 ∷ rest) (clear : lacks 10 raw ≡ true) where
    pub cut_line_long : is_long raw ≡ true → AsTold (told.Bad place) (OfLines l) (OfLines l)
    cut_line_long long = λ next. subst (λ (p : ℕ). OfLines l next [] (bad p)) (sym at) (line_long l raw rest next (sym looks ∙ parts) clear long)

    pub cut_line : (m : Cutting) (number : ℕ) (line : List ℕ) (t : Told) → number ≡ l.number → is_long raw ≡ false → line ≡ without_return raw
        → Speaks number line t
        → m ≡ record { place = l.place + length raw + 1; number = suc l.number; unread = drop (length raw + 1) l.unread } → AsTold t (OfLines l) (OfLines m)
    cut_line m number line t counted short cut speaks is =
        let left : drop (length raw + 1) l.unread ≡ rest = ap (drop (length raw + 1)) (sym looks ∙ parts) ∙ drop-append-add raw (10 ∷ rest) 1 in
        let behind : m ≡ behind_line l raw rest = is ∙ ap (λ u. record { place = l.place + length raw + 1; number = suc l.number; unread = u }) left in
        subst (λ (k : Cutting). AsTold t (OfLines l) (OfLines k)) (sym behind)
        (told_line l raw rest t (sym looks ∙ parts) clear short
        (subst (λ (n : ℕ). Speaks n (without_return raw) t) counted (subst (λ (x : List ℕ). Speaks number x t) cut speaks)))
