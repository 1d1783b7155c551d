-- Streams of texts: a whole part in front, and that each text has one stream.
use Rattle.std.proofs.Common.{◌≡◌, ◌≢◌, ℕ, ◌+◌, ◌≤◌, zero, suc, List, [], ◌∷◌, ◌++◌, length, take, drop, refl, ap, subst, ◌∙◌, sym, arith, length-drop, append_assoc}
use Rattle.std.specs.List.{concat}
use Rattle.std.proofs.lemmas.List.{take-append-drop, length-take-le}
use Rattle.std.proofs.Math.Seq.{take-append_seam, drop-append_seam}
use Rattle.giop_frame.specs.declared.rules.Look.{Look}
use Rattle.giop_frame.specs.declared.rules.Look.TheVariants.{Unfinished, Whole, Bad}
use Rattle.giop_frame.specs.declared.why.Why.{Why}
use Rattle.giop_frame.specs.Open.{taken_bytes}
use Rattle.giop_frame.specs.Rules.{look_at}
use Rattle.giop_frame.specs.Stream.{Framed, Reading, End, left_over, bad_place, after, after_all, completed, messages_of, AreGood, StreamEnds, StreamFrom, OneStream, start}
use Rattle.giop_frame.proofs.Looking.{whole_from_look, look_from_whole, whole_more, whole_front, bad_more, whole_size, whole≢unfinished, whole≢bad}

-- a text that begins with a good part p
good_front : (limit : ℕ) (r : Reading) (p rest : List ℕ) → look_at limit r.pending p ≡ Whole (length p) → look_at limit r.pending (p ++ rest) ≡ Whole (length p)
good_front limit r p rest e =
    look_from_whole limit r.pending (p ++ rest) (length p) (whole_more limit r.pending p rest (length p) (whole_from_look limit r.pending p (length p) e))

-- a good part, and the stream of what follows it
pub stream_put : (limit : ℕ) (r : Reading) (p rest : List ℕ) (messages : List Framed) (end : End) → look_at limit r.pending p ≡ Whole (length p)
    → StreamFrom limit (after r p) rest messages end → StreamFrom limit r (p ++ rest) (completed r p ++ messages) end
stream_put limit r p rest messages end good s = record {
  parts = p ∷ s.parts;
  left = s.left;
  cut = ap (λ (t : List ℕ). p ++ t) s.cut ∙ sym (append_assoc p (concat s.parts) s.left);
  good = (good, s.good);
  given = ap (λ (ms : List Framed). completed r p ++ ms) s.given;
  ends = s.ends;
}

-- no text begins with a good part and has another end
no_end : (limit : ℕ) (r : Reading) (text : List ℕ) (n : ℕ) (end : End) → look_at limit r.pending text ≡ Whole n → StreamEnds limit r text end → ⊥
no_end limit r text n (left_over have) e h = whole≢unfinished n (sym e ∙ h.0)
no_end limit r text n (bad_place at why) e h = whole≢bad n why (sym e ∙ h.0)

-- the stream of a text behind the part in front
pub record Behind (limit : ℕ) (r : Reading) (p rest : List ℕ) (messages : List Framed) (end : End) : Type 0 where
  pub others : List Framed
  pub all : messages ≡ completed r p ++ others
  pub stream : StreamFrom limit (after r p) rest others end

behind_parts : (limit : ℕ) (r : Reading) (p rest : List ℕ) (messages : List Framed) (end : End) (parts : List (List ℕ)) (left : List ℕ)
    → look_at limit r.pending p ≡ Whole (length p) → p ++ rest ≡ concat parts ++ left → AreGood limit r parts → messages ≡ messages_of r parts
    → StreamEnds limit (after_all r parts) left end → Behind limit r p rest messages end
behind_parts limit r p rest messages end [] left good cut all given ends =
    absurd (no_end limit r left (length p) end (ap (look_at limit r.pending) (sym cut) ∙ good_front limit r p rest good) ends)
behind_parts limit r p rest messages end (q ∷ qs) left good cut all given ends =
    let whole : p ++ rest ≡ q ++ (concat qs ++ left) = cut ∙ append_assoc q (concat qs) left in
    let same : length p ≡ length q = whole_size (length p) (length q)
    (sym (good_front limit r p rest good) ∙ (ap (look_at limit r.pending) whole ∙ good_front limit r q (concat qs ++ left) all.0)) in
    let part : p ≡ q = sym (take-append_seam p rest)
    ∙ (ap (λ (n : ℕ). take n (p ++ rest)) same ∙ (ap (take (length q)) whole ∙ take-append_seam q (concat qs ++ left))) in
    let tail : rest ≡ concat qs ++ left = sym (drop-append_seam p rest)
    ∙ (ap (λ (n : ℕ). drop n (p ++ rest)) same ∙ (ap (drop (length q)) whole ∙ drop-append_seam q (concat qs ++ left))) in
    subst (λ (x : List ℕ). Behind limit r x rest messages end) (sym part)
    (record {
      others = messages_of (after r q) qs;
      all = given;
      stream = record { parts = qs; left = left; cut = tail; good = all.1; given = refl; ends = ends };
    })

pub stream_behind : (limit : ℕ) (r : Reading) (p rest : List ℕ) (messages : List Framed) (end : End) → look_at limit r.pending p ≡ Whole (length p)
    → StreamFrom limit r (p ++ rest) messages end → Behind limit r p rest messages end
stream_behind limit r p rest messages end good s = behind_parts limit r p rest messages end s.parts s.left good s.cut s.good s.given s.ends

unfinished≢bad : (why : Why) → Unfinished ≢ Bad why
unfinished≢bad why e = cc

bad_why : (why other : Why) → Bad why ≡ Bad other → why ≡ other
bad_why why other e = cc

-- a text whose first part isn't whole, or is bad, has one end
one_end : (limit : ℕ) (r : Reading) (text : List ℕ) (end other : End) → StreamEnds limit r text end → StreamEnds limit r text other → end ≡ other
one_end limit r text (left_over m) (left_over n) d e = ap left_over (d.1 ∙ sym e.1)
one_end limit r text (left_over m) (bad_place at why) d e = absurd (unfinished≢bad why (sym d.0 ∙ e.0))
one_end limit r text (bad_place at why) (left_over m) d e = absurd (unfinished≢bad why (sym e.0 ∙ d.0))
one_end limit r text (bad_place a why) (bad_place b other) d e =
    ap (λ (n : ℕ). bad_place n why) (d.1 ∙ sym e.1) ∙ ap (bad_place b) (bad_why why other (sym d.0 ∙ e.0))

-- two streams of a text are the same
pub record AreSame (messages others : List Framed) (end other : End) : Type 0 where
  pub messages_same : messages ≡ others
  pub end_same : end ≡ other

at_end : (limit : ℕ) (r : Reading) (text : List ℕ) (end : End) (others : List Framed) (other : End) (parts : List (List ℕ)) (left : List ℕ)
    → StreamEnds limit r text end → text ≡ concat parts ++ left → AreGood limit r parts → others ≡ messages_of r parts
    → StreamEnds limit (after_all r parts) left other
    → AreSame [] others end other
at_end limit r text end others other [] left here cut all given ends =
    record { messages_same = sym given; end_same = one_end limit r text end other here (subst (λ (t : List ℕ). StreamEnds limit r t other) (sym cut) ends) }
at_end limit r text end others other (q ∷ qs) left here cut all given ends =
    absurd (no_end limit r text (length q) end
    (ap (look_at limit r.pending) (cut ∙ append_assoc q (concat qs) left) ∙ good_front limit r q (concat qs ++ left) all.0) here)

same_parts : (limit : ℕ) (r : Reading) (text : List ℕ) (messages others : List Framed) (end other : End) (parts : List (List ℕ)) (left : List ℕ)
    → text ≡ concat parts ++ left → AreGood limit r parts → messages ≡ messages_of r parts → StreamEnds limit (after_all r parts) left end
    → StreamFrom limit r text others other → AreSame messages others end other
same_parts limit r text messages others end other [] left cut all given ends s =
    subst (λ (ms : List Framed). AreSame ms others end other) (sym given)
    (at_end limit r text end others other s.parts s.left (subst (λ (t : List ℕ). StreamEnds limit r t end) (sym cut) ends) s.cut s.good s.given s.ends)
same_parts limit r text messages others end other (p ∷ ps) left cut all given ends s =
    let whole : text ≡ p ++ (concat ps ++ left) = cut ∙ append_assoc p (concat ps) left in
    let b = stream_behind limit r p (concat ps ++ left) others other all.0 (subst (λ (t : List ℕ). StreamFrom limit r t others other) whole s) in
    let tail = same_parts limit (after r p) (concat ps ++ left) (messages_of (after r p) ps) b.others end other ps left refl all.1 refl ends b.stream in
    record {
      messages_same = given ∙ (ap (λ (ms : List Framed). completed r p ++ ms) tail.messages_same ∙ sym b.all);
      end_same = tail.end_same;
    }

pub one_stream : (limit : ℕ) (r : Reading) (text : List ℕ) (messages others : List Framed) (end other : End)
    → StreamFrom limit r text messages end → StreamFrom limit r text others other → AreSame messages others end other
one_stream limit r text messages others end other s t =
    same_parts limit r text messages others end other s.parts s.left s.cut s.good s.given s.ends t

-- each text has a stream
pub record SomeStream (limit : ℕ) (r : Reading) (text : List ℕ) : Type 0 where
  pub messages : List Framed
  pub end : End
  pub stream : StreamFrom limit r text messages end

ended : (limit : ℕ) (r : Reading) (text : List ℕ) (end : End) → StreamEnds limit r text end → StreamFrom limit r text [] end
ended limit r text end e = record { parts = []; left = text; cut = refl; good = tt; given = refl; ends = e }

pub unfinished_stream : (limit : ℕ) (r : Reading) (text : List ℕ) → look_at limit r.pending text ≡ Unfinished
    → StreamFrom limit r text [] (left_over (taken_bytes r.pending + length text))
unfinished_stream limit r text e = ended limit r text (left_over (taken_bytes r.pending + length text)) (e, refl)

pub bad_stream : (limit : ℕ) (r : Reading) (text more : List ℕ) (why : Why) → look_at limit r.pending text ≡ Bad why
    → StreamFrom limit r (text ++ more) [] (bad_place r.place why)
bad_stream limit r text more why e = ended limit r (text ++ more) (bad_place r.place why) (bad_more limit r.pending text more why e, refl)

-- a bad place, and the messages before it, stay where more follows
pub bad_stays : (limit : ℕ) (r : Reading) (text more : List ℕ) (messages : List Framed) (at : ℕ) (why : Why)
    → StreamFrom limit r text messages (bad_place at why) → StreamFrom limit r (text ++ more) messages (bad_place at why)
bad_stays limit r text more messages at why s = record {
  parts = s.parts;
  left = s.left ++ more;
  cut = ap (λ (t : List ℕ). t ++ more) s.cut ∙ append_assoc (concat s.parts) s.left more;
  good = s.good;
  given = s.given;
  ends = (bad_more limit (after_all r s.parts).pending s.left more why s.ends.0, s.ends.1);
}

-- from the stream behind the part in front, where there is one
some_seen : (fuel limit : ℕ) (r : Reading) (text : List ℕ) (seen : Look) → look_at limit r.pending text ≡ seen → length text ≤ fuel
    → ((n : ℕ) → look_at limit r.pending text ≡ Whole n → (s : Reading) → SomeStream limit s (drop n text)) → SomeStream limit r text
some_seen fuel limit r text Unfinished e short next = record { messages = []; end = _; stream = unfinished_stream limit r text e }
some_seen fuel limit r text (Bad why) e short next =
    record { messages = []; end = bad_place r.place why; stream = ended limit r text (bad_place r.place why) (e, refl) }
some_seen fuel limit r text (Whole n) e short next =
    let w = whole_from_look limit r.pending text n e in
    let p = take n text in
    let good : look_at limit r.pending p ≡ Whole (length p) =
    look_from_whole limit r.pending p n (whole_front limit r.pending text n w) ∙ ap Whole (sym (length-take-le n text w.whole)) in
    let rest = next n e (after r p) in
    record {
      messages = completed r p ++ rest.messages;
      end = rest.end;
      stream = subst (λ (t : List ℕ). StreamFrom limit r t (completed r p ++ rest.messages) rest.end) (take-append-drop n text)
          (stream_put limit r p (drop n text) rest.messages rest.end good rest.stream);
    }

-- by the bytes that are left, which each part makes fewer
some_within : (fuel limit : ℕ) (r : Reading) (text : List ℕ) → length text ≤ fuel → SomeStream limit r text
some_within zero limit r text short =
    some_seen zero limit r text (look_at limit r.pending text) refl short
    (λ n e s. let w = whole_from_look limit r.pending text n e in absurd (omega (arith, w.header, short)))
some_within (suc fuel) limit r text short =
    some_seen (suc fuel) limit r text (look_at limit r.pending text) refl short
    (λ n e s. let w = whole_from_look limit r.pending text n e in
    some_within fuel limit s (drop n text) (omega (arith, length-drop n text, w.size, w.whole, short)))

pub some_stream : (limit : ℕ) (r : Reading) (text : List ℕ) → SomeStream limit r text
some_stream limit r text = some_within (length text) limit r text (omega arith)

pub stream_alone : (limit : ℕ) (text : List ℕ) → OneStream limit text
stream_alone limit text =
    let s = some_stream limit start text in
    record {
      messages = s.messages;
      end = s.end;
      is_stream = s.stream;
      alone = λ others other t. let same = one_stream limit start text others s.messages other s.end t s.stream in (same.messages_same, same.end_same);
    }
