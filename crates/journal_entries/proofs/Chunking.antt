-- A list in chunks: its length, the value at a place, and how it grows.
use Rattle.std.proofs.Common.{◌≡◌, ℕ, ◌+◌, ◌-◌, ◌*◌, ◌<◌, ◌≤◌, suc, zero, List, [], ◌∷◌, ◌++◌, Option, Some, None, length, refl, sym, ap, subst, ◌∙◌, arith, append_assoc, append-nil}
use Rattle.std.specs.Prelude.{Vec, vec_len}
use Rattle.std.specs.List.{AllByRecursion, slice_get}
use Rattle.std.proofs.Math.ListN.{length-append}
use Rattle.journal_entries.specs.Chunked.{IsFull, IsEmpty, size, values}

pub get_right : {X : Type 0} (xs ys : List X) (i : ℕ) → slice_get (xs ++ ys) (length xs + i) ≡ slice_get ys i
get_right [] ys i = ap (slice_get ys) (omega arith)
get_right (x ∷ xs) ys i = ap (slice_get (x ∷ (xs ++ ys))) (let e : length (x ∷ xs) + i ≡ suc (length xs + i) = omega arith in e) ∙ get_right xs ys i

pub get_left : {X : Type 0} (xs ys : List X) (i : ℕ) → i < length xs → slice_get (xs ++ ys) i ≡ slice_get xs i
get_left [] ys i below = absurd (omega (arith, below))
get_left (x ∷ xs) ys zero below = refl
get_left (x ∷ xs) ys (suc i) below = get_left xs ys i (omega (arith, below))

pub past_all : {X : Type 0} (xs : List X) (i : ℕ) → slice_get xs i ≡ None → length xs ≤ i
past_all [] i none = omega arith
past_all (x ∷ xs) zero none = absurd (let e : Some x ≡ None = none in cc)
past_all (x ∷ xs) (suc i) none = (let e = past_all xs i none in omega (arith, e))

-- what is said of all and of one more is said of all then, and of the last
pub all_turned : {X : Type 0} (P : X → Type 0) (xs : List X) (x : X) → AllByRecursion P xs → P x → AllByRecursion P (xs ++ x ∷ [])
all_turned P [] x all is = (is, tt)
all_turned P (y ∷ xs) x all is = (all.0, all_turned P xs x all.1 is)

pub all_end : {X : Type 0} (P : X → Type 0) (xs : List X) (x : X) → AllByRecursion P (xs ++ x ∷ []) → P x
all_end P [] x all = all.0
all_end P (y ∷ xs) x all = all_end P xs x all.1

module _ {T A : Type 0} where
  pub length_values : (full : List (Vec T A)) (last : List T) → AllByRecursion IsFull full → length (values full last) ≡ length full * size + length last
  length_values [] last all = omega arith
  length_values (c ∷ full) last all =
      (let first : length c.items ≡ 4096 = sym c.ok.0 ∙ all.0 in
      let rest = length_values full last all.1 in
      let both = length-append c.items (values full last) in omega (arith, first, rest, both))

  -- behind the full chunks stands the last one, full too, and nothing more
  pub values_turned : (full : List (Vec T A)) (c : Vec T A) → values (full ++ c ∷ []) [] ≡ values full c.items
  values_turned [] c = append-nil c.items
  values_turned (d ∷ full) c = ap (λ xs. d.items ++ xs) (values_turned full c)

  pub values_grown : (full : List (Vec T A)) (last : List T) (x : T) → values full (last ++ x ∷ []) ≡ values full last ++ x ∷ []
  values_grown [] last x = refl
  values_grown (c ∷ full) last x = ap (λ xs. c.items ++ xs) (values_grown full last x) ∙ sym (append_assoc c.items (values full last) (x ∷ []))

  -- the value at a place of a full chunk
  pub get_in_full : (full : List (Vec T A)) (last : List T) (q r : ℕ) (chunk : Vec T A) → AllByRecursion IsFull full → r < size → slice_get full q ≡ Some chunk
      → slice_get (values full last) (q * size + r) ≡ slice_get chunk.items r
  get_in_full [] last q r chunk all below is = absurd (let e : None ≡ Some chunk = is in cc)
  get_in_full (c ∷ full) last zero r chunk all below is =
      (let same : c ≡ chunk = cc (let e : Some c ≡ Some chunk = is in e) in
      let long : length c.items ≡ 4096 = sym c.ok.0 ∙ all.0 in
      ap (slice_get (c.items ++ values full last)) (omega arith)
      ∙ (get_left c.items (values full last) r (omega (arith, long, below)) ∙ ap (λ (v : Vec T A). slice_get v.items r) same))
  get_in_full (c ∷ full) last (suc q) r chunk all below is =
      (let long : length c.items ≡ 4096 = sym c.ok.0 ∙ all.0 in
      ap (slice_get (c.items ++ values full last)) (let e : suc q * size + r ≡ length c.items + (q * size + r) = omega (arith, long) in e)
      ∙ (get_right c.items (values full last) (q * size + r) ∙ get_in_full full last q r chunk all.1 below is))

  -- the value at a place of the chunk that is being filled
  pub get_in_last : (full : List (Vec T A)) (last : List T) (i : ℕ) → AllByRecursion IsFull full
      → slice_get (values full last) (length full * size + i) ≡ slice_get last i
  get_in_last [] last i all = ap (slice_get last) (omega arith)
  get_in_last (c ∷ full) last i all =
      (let long : length c.items ≡ 4096 = sym c.ok.0 ∙ all.0 in
      ap (slice_get (c.items ++ values full last)) (let e : length (c ∷ full) * size + i ≡ length c.items + (length full * size + i) = omega (arith, long) in e)
      ∙ (get_right c.items (values full last) (length full * size + i) ∙ get_in_last full last i all.1))
