-- A string and a sequence lie right behind their length: this follows from their spelling.
use Rattle.std.proofs.Common.{◌≡◌, ℕ, ◌+◌, List, [], ◌∷◌, ◌++◌, length, sym, ap, ◌∙◌, inl, inr, arith, append_assoc, length-append}
use Rattle.std.proofs.lemmas.List.{append-nil}
use Rattle.cdr_core.specs.Field.{ulong, text, octets}
use Rattle.cdr_core.specs.Spelling.{gap}
use Rattle.cdr_core.specs.Cursor.{Cursor, Reads, Counts, EndsInNul}
use Rattle.cdr_core.proofs.Bodies.{one_body, long_length}
use Rattle.cdr_core.proofs.OneReading.{octets_counts, text_counts}
use Rattle.cdr_core.specs.Part.{LiesAt, counted_at}
use Rattle.cdr_core.proofs.Slices.{lies_between}

-- the padding and the length itself
length_of_count : (n : ℕ) (c a : Cursor) (p : Reads (ulong n) c a) → length p.bytes ≡ gap 4 c.place + 4
length_of_count n c a p =
    let number = one_body c.little (ulong n) p.spelled.body (λ k. cc) p.spelled.stands in
    omega (
      arith,
      ap (λ (l : List ℕ). length l) p.spelled.parts,
      length-append p.spelled.padding p.spelled.body,
      p.spelled.aligned,
      ap
          (λ (l : List ℕ). length l) number,
      long_length c.little n,
    )

-- the first of the bytes that a length counts
pub counts_lie : (bytes part back : List ℕ) (c a : Cursor) → bytes ≡ part ++ back → Counts bytes c a → LiesAt (counted_at c.place) part c
counts_lie bytes part back c a is p =
    let front : List ℕ = p.counted.bytes in
    let split : c.rest ≡ front ++ (part ++ (back ++ a.rest)) =
    p.counted.passed.split ∙ ap (λ (l : List ℕ). front ++ l) (p.passed.split ∙ (ap (λ (l : List ℕ). l ++ a.rest) is ∙ append_assoc part back a.rest)) in
    lies_between front part (back ++ a.rest) (counted_at c.place) c split (omega (arith, length_of_count (length bytes) c p.behind p.counted))

pub octets_lie : (xs : List ℕ) (c a : Cursor) → Reads (octets xs) c a → LiesAt (counted_at c.place) xs c
octets_lie xs c a p = counts_lie xs xs [] c a (sym (append-nil xs)) (octets_counts xs c a p)

ends_lie : (xs bytes : List ℕ) (c a : Cursor) → EndsInNul xs bytes → Counts bytes c a → LiesAt (counted_at c.place) xs c
ends_lie xs bytes c a (inl e) p = counts_lie bytes xs (0 ∷ []) c a e p
ends_lie xs bytes c a (inr e) p = counts_lie bytes xs [] c a (e.0 ∙ sym (append-nil xs ∙ e.1)) p

pub text_lies : (xs : List ℕ) (c a : Cursor) → Reads (text xs) c a → LiesAt (counted_at c.place) xs c
text_lies xs c a p =
    let whole : (bytes : List ℕ) × (EndsInNul xs bytes × Counts bytes c a) = text_counts xs c a p in
    ends_lie xs whole.0 c a whole.1.0 whole.1.1
