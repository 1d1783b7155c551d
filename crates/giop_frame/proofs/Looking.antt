-- What is seen of the part in front of a text, and that more bytes behind it change nothing.
use Rattle.std.proofs.Common.{◌≡◌, ◌≢◌, ℕ, ◌+◌, ◌≤◌, ltb, Option, Some, None, List, ◌++◌, length, take, drop, refl, ap, subst, ◌∙◌, sym, arith, length-append, ◌⊎◌, inl, inr, ⊎_elim}
use Rattle.std.proofs.lemmas.Bool.{cases_lt, cond-true, le-ltb, lt-ltb}
use Rattle.std.proofs.lemmas.Grind.{common_steps}
use Rattle.std.proofs.lemmas.Bool.Decides.{nat_tests}
use Rattle.std.proofs.lemmas.List.{length-take-le, take-append-drop}
use Rattle.std.specs.Option.{option_or}
use Rattle.giop_frame.specs.declared.header.Header.{Header}
use Rattle.giop_frame.specs.declared.rules.Look.{Look}
use Rattle.giop_frame.specs.declared.rules.Look.TheVariants.{Unfinished, Whole, Bad}
use Rattle.giop_frame.specs.declared.why.Why.{Why}
use Rattle.giop_frame.specs.Part.{header_of, id_end}
use Rattle.giop_frame.specs.Open.{Opens}
use Rattle.giop_frame.specs.Rules.{wait_for, unless, look_at, foreign_fault, size_fault, header_fault, id_fault}
use Rattle.giop_frame.proofs.Front.{header_of-front, header_fault-front, id_fault-front}

pub wait_over : (n : ℕ) (text : List ℕ) (r : Look) → n ≤ length text → wait_for n text r ≡ r
wait_over n text r h = let f = le-ltb (length text) n h in grind (arith, common_steps)

pub wait_passed : (n : ℕ) (text : List ℕ) (l r : Look) → wait_for n text l ≡ r → r ≢ Unfinished → (n ≤ length text) × (l ≡ r)
wait_passed n text l r e ne =
    ⊎_elim
    (λ short. absurd (ne (sym e ∙ cond-true (ltb (length text) n) Unfinished l (lt-ltb (length text) n short))))
    (λ long. (long, sym (wait_over n text l long) ∙ e))
    (cases_lt (length text) n)

pub sound_from_whole : (f : Option Why) (l : Look) (n : ℕ) → unless f l ≡ Whole n → (f ≡ None) × (l ≡ Whole n)
sound_from_whole (Some why) l n e = cc
sound_from_whole None l n e = (refl, e)

pub bad_cases : (f : Option Why) (l : Look) (why : Why) → unless f l ≡ Bad why → (f ≡ Some why) ⊎ ((f ≡ None) × (l ≡ Bad why))
bad_cases (Some other) l why e = inl cc
bad_cases None l why e = inr (refl, e)

pub whole≢unfinished : (n : ℕ) → Whole n ≢ Unfinished
whole≢unfinished n e = cc

bad≢unfinished : (why : Why) → Bad why ≢ Unfinished
bad≢unfinished why e = cc

pub whole≢bad : (n : ℕ) (why : Why) → Whole n ≢ Bad why
whole≢bad n why e = cc

-- a whole part, and good: no rule is broken, and all its bytes are there
pub record IsWhole (limit : ℕ) (pending : Opens) (text : List ℕ) (n : ℕ) : Type 0 where
  pub header : 12 ≤ length text
  pub sound : header_fault limit pending text ≡ None
  pub id : id_end (header_of text) ≤ length text
  pub placed : id_fault limit pending text ≡ None
  pub size : 12 + (header_of text).size ≡ n
  pub whole : n ≤ length text

pub whole_size : (m n : ℕ) → Whole m ≡ Whole n → m ≡ n
whole_size m n e = cc

-- what is left to see behind the header, and behind the id
after_id : ℕ → Opens → List ℕ → Look
after_id limit pending text = wait_for (12 + (header_of text).size) text (Whole (12 + (header_of text).size))

after_header : ℕ → Opens → List ℕ → Look
after_header limit pending text = wait_for (id_end (header_of text)) text (unless (id_fault limit pending text) (after_id limit pending text))

look_at-stages : (limit : ℕ) (pending : Opens) (text : List ℕ)
    → look_at limit pending text ≡ wait_for 12 text (unless (header_fault limit pending text) (after_header limit pending text))
unfolding after_id after_header
look_at-stages limit pending text = refl

after_header-stages : (limit : ℕ) (pending : Opens) (text : List ℕ)
    → after_header limit pending text ≡ wait_for (id_end (header_of text)) text (unless (id_fault limit pending text) (after_id limit pending text))
unfolding after_header
after_header-stages limit pending text = refl

after_id-stages : (limit : ℕ) (pending : Opens) (text : List ℕ)
    → after_id limit pending text ≡ wait_for (12 + (header_of text).size) text (Whole (12 + (header_of text).size))
unfolding after_id
after_id-stages limit pending text = refl

pub whole_from_look : (limit : ℕ) (pending : Opens) (text : List ℕ) (n : ℕ) → look_at limit pending text ≡ Whole n → IsWhole limit pending text n
whole_from_look limit pending text n e =
    let size : ℕ = 12 + (header_of text).size in
    let a : (12 ≤ length text) × (unless (header_fault limit pending text) (after_header limit pending text) ≡ Whole n) =
    wait_passed 12 text (unless (header_fault limit pending text) (after_header limit pending text)) (Whole n)
    (sym (look_at-stages limit pending text) ∙ e) (whole≢unfinished n) in
    let b : (header_fault limit pending text ≡ None) × (after_header limit pending text ≡ Whole n) =
    sound_from_whole (header_fault limit pending text) (after_header limit pending text) n a.1 in
    let d : (id_end (header_of text) ≤ length text) × (unless (id_fault limit pending text) (after_id limit pending text) ≡ Whole n) =
    wait_passed (id_end (header_of text)) text (unless (id_fault limit pending text) (after_id limit pending text)) (Whole n)
    (sym (after_header-stages limit pending text) ∙ b.1) (whole≢unfinished n) in
    let f : (id_fault limit pending text ≡ None) × (after_id limit pending text ≡ Whole n) =
    sound_from_whole (id_fault limit pending text) (after_id limit pending text) n d.1 in
    let g : (size ≤ length text) × (Whole size ≡ Whole n) =
    wait_passed size text (Whole size) (Whole n) (sym (after_id-stages limit pending text) ∙ f.1) (whole≢unfinished n) in
    record {
      header = a.0;
      sound = b.0;
      id = d.0;
      placed = f.0;
      size = whole_size size n g.1;
      whole = subst (λ (m : ℕ). m ≤ length text) (whole_size size n g.1) g.0;
    }

pub look_from_whole : (limit : ℕ) (pending : Opens) (text : List ℕ) (n : ℕ) → IsWhole limit pending text n → look_at limit pending text ≡ Whole n
look_from_whole limit pending text n w =
    let size : ℕ = 12 + (header_of text).size in
    look_at-stages limit pending text ∙ (wait_over 12 text _ w.header
    ∙ (ap (λ f. unless f (after_header limit pending text)) w.sound
    ∙ (after_header-stages limit pending text ∙ (wait_over (id_end (header_of text)) text _ w.id
    ∙ (ap (λ f. unless f (after_id limit pending text)) w.placed
    ∙ (after_id-stages limit pending text ∙ (wait_over size text (Whole size) (subst (λ (m : ℕ). m ≤ length text) (sym w.size) w.whole)
    ∙ ap Whole w.size)))))))

-- a whole part is the same, whatever follows it
pub whole_more : (limit : ℕ) (pending : Opens) (text more : List ℕ) (n : ℕ) → IsWhole limit pending text n → IsWhole limit pending (text ++ more) n
whole_more limit pending text more n w =
    let head = header_of-front text more w.header in
    let longer : length text ≤ length (text ++ more) = omega (arith, length-append text more) in
    record {
      header = omega (arith, w.header, longer);
      sound = header_fault-front limit pending text more w.header ∙ w.sound;
      id = subst (λ (h : Header). id_end h ≤ length (text ++ more)) (sym head) (omega (arith, w.id, longer));
      placed = id_fault-front limit pending text more w.header w.id ∙ w.placed;
      size = ap (λ (h : Header). 12 + h.size) head ∙ w.size;
      whole = omega (arith, w.whole, longer);
    }

-- where the header and the id are good, a part isn't bad
after_id-good : (limit : ℕ) (pending : Opens) (text : List ℕ) (why : Why) → after_id limit pending text ≡ Bad why → ⊥
after_id-good limit pending text why e =
    let size : ℕ = 12 + (header_of text).size in
    let g = wait_passed size text (Whole size) (Bad why) (sym (after_id-stages limit pending text) ∙ e) (bad≢unfinished why) in
    whole≢bad size why g.1

by_the_id : (limit : ℕ) (pending : Opens) (text : List ℕ) (why : Why)
    → unless (id_fault limit pending text) (after_id limit pending text) ≡ Bad why → id_fault limit pending text ≡ Some why
by_the_id limit pending text why e =
    ⊎_elim (λ here. here)
    (λ (there : (id_fault limit pending text ≡ None) × (after_id limit pending text ≡ Bad why)). absurd (after_id-good limit pending text why there.1))
    (bad_cases (id_fault limit pending text) (after_id limit pending text) why e)

-- a bad place stays bad for the same reason
pub bad_more : (limit : ℕ) (pending : Opens) (text more : List ℕ) (why : Why) → look_at limit pending text ≡ Bad why
    → look_at limit pending (text ++ more) ≡ Bad why
bad_more limit pending text more why e =
    let longer : length text ≤ length (text ++ more) = omega (arith, length-append text more) in
    let both = text ++ more in
    let a : (12 ≤ length text) × (unless (header_fault limit pending text) (after_header limit pending text) ≡ Bad why) =
    wait_passed 12 text (unless (header_fault limit pending text) (after_header limit pending text)) (Bad why)
    (sym (look_at-stages limit pending text) ∙ e) (bad≢unfinished why) in
    let head = header_of-front text more a.0 in
    let seen : look_at limit pending both ≡ unless (header_fault limit pending text) (after_header limit pending both) =
    look_at-stages limit pending both ∙ (wait_over 12 both _ (omega (arith, a.0, longer))
    ∙ ap (λ f. unless f (after_header limit pending both)) (header_fault-front limit pending text more a.0)) in
    ⊎_elim
    (λ here. seen ∙ ap (λ f. unless f (after_header limit pending both)) here)
    (λ (there : (header_fault limit pending text ≡ None) × (after_header limit pending text ≡ Bad why)).
    let d : (id_end (header_of text) ≤ length text) × (unless (id_fault limit pending text) (after_id limit pending text) ≡ Bad why) =
    wait_passed (id_end (header_of text)) text (unless (id_fault limit pending text) (after_id limit pending text)) (Bad why)
    (sym (after_header-stages limit pending text) ∙ there.1) (bad≢unfinished why) in
    let far : id_end (header_of both) ≤ length both = subst (λ (h : Header). id_end h ≤ length both) (sym head) (omega (arith, d.0, longer)) in
    let then : after_header limit pending both ≡ unless (id_fault limit pending text) (after_id limit pending both) =
    after_header-stages limit pending both ∙ (wait_over (id_end (header_of both)) both _ far
    ∙ ap (λ f. unless f (after_id limit pending both)) (id_fault-front limit pending text more a.0 d.0)) in
    seen ∙ (ap (λ f. unless f (after_header limit pending both)) there.0 ∙ (then
    ∙ ap (λ f. unless f (after_id limit pending both)) (by_the_id limit pending text why d.1))))
    (bad_cases (header_fault limit pending text) (after_header limit pending text) why a.1)

pub first_none : (f g : Option Why) → option_or f g ≡ None → f ≡ None
first_none None g e = refl
first_none (Some why) g e = cc

pub second_none : (f g : Option Why) → option_or f g ≡ None → g ≡ None
second_none None g e = e
second_none (Some why) g e = cc

-- a part whose id matters is long enough for one
id_within : (limit : ℕ) (pending : Opens) (h : Header) → size_fault limit pending h ≡ None → id_end h ≤ 12 + h.size
id_within limit pending h e = grind (arith, nat_tests)

-- a whole part by itself
pub whole_front : (limit : ℕ) (pending : Opens) (text : List ℕ) (n : ℕ) → IsWhole limit pending text n → IsWhole limit pending (take n text) n
whole_front limit pending text n w =
    let p = take n text in
    let q = drop n text in
    let long : length p ≡ n = length-take-le n text w.whole in
    let v : IsWhole limit pending (p ++ q) n = subst (λ (t : List ℕ). IsWhole limit pending t n) (sym (take-append-drop n text)) w in
    let least : 12 ≤ length p = omega (arith, w.size, long) in
    let head : header_of (p ++ q) ≡ header_of p = header_of-front p q least in
    let sound : header_fault limit pending p ≡ None = sym (header_fault-front limit pending p q least) ∙ v.sound in
    let size : 12 + (header_of p).size ≡ n = ap (λ (h : Header). 12 + h.size) (sym head) ∙ v.size in
    let fits = id_within limit pending (header_of p) (second_none (foreign_fault p) (size_fault limit pending (header_of p)) sound) in
    let id : id_end (header_of p) ≤ length p = omega (arith, fits, size, long) in
    record {
      header = least;
      sound = sound;
      id = id;
      placed = sym (id_fault-front limit pending p q least id) ∙ v.placed;
      size = size;
      whole = omega (arith, long);
    }
