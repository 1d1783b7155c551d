-- Slices of bytes, and of what a cursor hasn't read.
use Rattle.std.proofs.Common.{◌≡◌, ℕ, ◌+◌, ◌-◌, List, ◌++◌, length, take, drop, refl, sym, ap, ◌∙◌, subst, arith, append_assoc, length-append}
use Rattle.std.proofs.lemmas.List.{take_at, drop_at, drop-drop, length-drop, length-take, take-append-drop}
use Rattle.std.proofs.Math.Seq.{drop-append_seam}
use Rattle.cdr_core.specs.Cursor.{Cursor}
use Rattle.cdr_core.specs.Part.{IsSlice, LiesAt}
use Rattle.cdr_core.specs.Laws.{StandsBehind, LiesInMessage, SliceOfSlice}

-- behind a front, and in front of a back
pub slice_between : (front part back bytes : List ℕ) (place : ℕ) → bytes ≡ front ++ (part ++ back) → place ≡ length front → IsSlice place part bytes
slice_between front part back bytes place split at = record {
  ends = omega (arith, at, ap (λ (l : List ℕ). length l) split, length-append front (part ++ back), length-append part back);
  slice = sym (ap (λ n. take (length part) (drop n bytes)) at
      ∙ ap (λ (l : List ℕ). take (length part) (drop (length front) l)) split
      ∙ ap (λ (l : List ℕ). take (length part) l) (drop_at front (part ++ back) (length front) refl)
      ∙ take_at part back (length part) refl);
}

pub lies_between : (front part back : List ℕ) (place : ℕ) (c : Cursor) → c.rest ≡ front ++ (part ++ back) → place ≡ c.place + length front → LiesAt place part c
lies_between front part back place c split at = record {
  begins = omega (arith, at);
  slice = slice_between front part back c.rest (place - c.place) split (omega (arith, at));
}

-- what is left behind bytes that were passed
pub passed : (bytes front rest : List ℕ) (place : ℕ) → drop place bytes ≡ front ++ rest → rest ≡ drop (place + length front) bytes
passed bytes front rest place split =
    sym (sym (drop-drop (length front) place bytes) ∙ (ap (λ (l : List ℕ). drop (length front) l) split ∙ drop-append_seam front rest))

pub stands_behind : StandsBehind
stands_behind bytes field c after stands read = record {
  place = omega (
    arith,
    read.passed.moved,
    ap (λ (l : List ℕ). length l) (sym stands.rest ∙ read.passed.split),
    length-drop c.place bytes,
    length-append read.bytes after.rest,
    stands.place,
  );
  rest = subst (λ (n : ℕ). after.rest ≡ drop n bytes) (sym read.passed.moved)
      (passed bytes read.bytes after.rest c.place (sym stands.rest ∙ read.passed.split));
}

pub lies_in_message : LiesInMessage
lies_in_message bytes part place c stands lies =
    let sum : c.place + (place - c.place) ≡ place = omega (arith, lies.begins) in
    record {
      ends = omega (arith, lies.begins, lies.slice.ends, stands.place, ap (λ (l : List ℕ). length l) stands.rest, length-drop c.place bytes);
      slice = lies.slice.slice
          ∙ ap (λ (l : List ℕ). take (length part) (drop (place - c.place) l)) stands.rest
          ∙ ap (λ (l : List ℕ). take (length part) l) (drop-drop (place - c.place) c.place bytes ∙ ap (λ (n : ℕ). drop n bytes) sum);
    }

-- a slice is what stands between a front and a back
whole : (place : ℕ) (part bytes : List ℕ) → IsSlice place part bytes → bytes ≡ take place bytes ++ (part ++ drop (length part) (drop place bytes))
whole place part bytes is =
    sym (take-append-drop place bytes)
    ∙ ap (λ (l : List ℕ). take place bytes ++ l)
    (sym (take-append-drop (length part) (drop place bytes)) ∙ ap (λ (l : List ℕ). l ++ drop (length part) (drop place bytes)) (sym is.slice))

pub slice_of_slice : SliceOfSlice
slice_of_slice bytes inner part place at outside inside =
    let front : List ℕ = take place bytes in
    let back : List ℕ = drop (length inner) (drop place bytes) in
    let inner_front : List ℕ = take at inner in
    let inner_back : List ℕ = drop (length part) (drop at inner) in
    let split : bytes ≡ (front ++ inner_front) ++ (part ++ (inner_back ++ back)) =
    whole place inner bytes outside
    ∙ ap (λ (l : List ℕ). front ++ (l ++ back)) (whole at part inner inside)
    ∙ ap (λ (l : List ℕ). front ++ l) (append_assoc inner_front (part ++ inner_back) back)
    ∙ ap (λ (l : List ℕ). front ++ (inner_front ++ l)) (append_assoc part inner_back back)
    ∙ sym (append_assoc front inner_front (part ++ (inner_back ++ back))) in
    slice_between (front ++ inner_front) part (inner_back ++ back) bytes (place + at) split
    (omega (arith, length-append front inner_front, length-take place bytes, length-take at inner, outside.ends, inside.ends))
