-- What it means to pass bytes: the cursor behind them, one pass after another, and the fields read by them.
use Rattle.std.proofs.Common.{◌≡◌, ℕ, ◌+◌, ◌^◌, ◌<◌, Bool, true, false, List, [], ◌∷◌, ◌++◌, length, get_or, refl, sym, ap, ◌∙◌, subst, inl, inr, arith, append_assoc, length-append}
use Rattle.std.proofs.lemmas.List.{append-nil}
use Rattle.std.proofs.lemmas.Nat.{le_bytes_8, be_bytes_8}
use Rattle.std.specs.Int.{w32, w64, from_le_bytes, from_be_bytes}
use Rattle.cdr_core.specs.Kind.{unit_of}
use Rattle.cdr_core.specs.Field.{Field, ulong, text, octets, kind_of, Fits}
use Rattle.cdr_core.specs.Spelling.{gap, number_bytes, IsBody, Spells}
use Rattle.cdr_core.proofs.Bodies.{text_body}
use Rattle.cdr_core.specs.Cursor.{Cursor, Passes, Reads, Takes, Counts, EndsInNul}

-- a number's bytes are taken where the unread bytes were split twice, behind the padding and behind the body
pub takes_split : (little : Bool) (place size gap_len : ℕ) (whole padding behind body rest : List ℕ) (before : Cursor)
    → record { little = little; place = place; rest = whole } ≡ before → gap_len ≡ gap size place → length padding ≡ gap_len → length body ≡ size
    → whole ≡ padding ++ behind → behind ≡ body ++ rest → Takes size body before (record { little = little; place = place + (gap_len + size); rest = rest })
takes_split little place size gap_len whole padding behind body rest before stood is_gap padded sized first second =
    let after : Cursor = record { little = little; place = place + (gap_len + size); rest = rest } in
    subst (λ (c : Cursor). Takes size body c after) stood
    (record {
      padding = padding;
      aligned = padded ∙ is_gap;
      sized = sized;
      passed = record {
        order = refl;
        moved = omega (arith, length-append padding body, padded, sized);
        split = first ∙ ap (λ x. padding ++ x) second ∙ sym (append_assoc padding body rest);
      };
    })

-- one pass after another
pub passes_then : (xs ys : List ℕ) (a b c : Cursor) → Passes xs a b → Passes ys b c → Passes (xs ++ ys) a c
passes_then xs ys a b c first second =
    record {
      order = second.order ∙ first.order;
      moved = omega (arith, length-append xs ys, first.moved, second.moved);
      split = first.split ∙ ap (λ x. xs ++ x) second.split ∙ sym (append_assoc xs ys c.rest);
    }

-- a field is read where a length and as many bytes were passed that together are its body
pub reads_counted : (field : Field) (bytes : List ℕ) (before after : Cursor) → unit_of (kind_of field) ≡ 4 → (length bytes < 2 ^ 32 → Fits field)
    → IsBody before.little field (number_bytes before.little w32 (length bytes) ++ bytes) → Counts bytes before after → Reads field before after
reads_counted field bytes before after unit fits is_body counts =
    let count : Spells before.little before.place (ulong (length bytes)) counts.counted.bytes = counts.counted.spelled in
    let number : count.body ≡ number_bytes before.little w32 (length bytes) =
    elim count.stands [ inl e ↦ e | inr e ↦ absurd (no_text e.0) ] in
    record {
      bytes = counts.counted.bytes ++ bytes;
      spelled = record {
        padding = count.padding;
        body = count.body ++ bytes;
        fits = fits count.fits;
        aligned = count.aligned ∙ ap (λ u. gap u before.place) (sym unit);
        stands = subst (λ (x : List ℕ). IsBody before.little field (x ++ bytes)) (sym number) is_body;
        parts = ap (λ x. x ++ bytes) count.parts ∙ append_assoc count.padding count.body bytes;
      };
      passed = passes_then counts.counted.bytes bytes before counts.behind after counts.counted.passed counts.passed;
    }
  where
    no_text : ulong (length bytes) ≡ text [] → ⊥
    no_text e = cc

-- a sequence of octets is read where its count and its octets were passed
pub octets_counted : (bytes kept : List ℕ) (ahead before after : Cursor) → ahead ≡ before → kept ≡ bytes → Counts bytes ahead after
    → Reads (octets kept) before after
octets_counted bytes kept ahead before after stood same counts =
    let after_counts : Counts bytes before after = subst (λ (c : Cursor). Counts bytes c after) stood counts in
    subst (λ (x : List ℕ). Reads (octets x) before after) (sym same)
    (reads_counted (octets bytes) bytes before after refl (λ h. h) (inl refl) after_counts)

-- a string is read where its length and its bytes were passed
pub text_counted : (bytes front kept : List ℕ) (ahead before after : Cursor) → ahead ≡ before → kept ≡ front → EndsInNul front bytes → Counts bytes ahead after
    → Reads (text kept) before after
text_counted bytes front kept ahead before after stood same ends counts =
    let after_counts : Counts bytes before after = subst (λ (c : Cursor). Counts bytes c after) stood counts in
    subst (λ (x : List ℕ). Reads (text x) before after) (sym same)
    (reads_counted (text front) bytes before after refl (fits ends) (stands ends) after_counts)
  where
    fits : EndsInNul front bytes → length bytes < 2 ^ 32 → length front + 1 < 2 ^ 32
    fits (inl e) h = omega (arith, ap (λ x. length x) e, length-append front (0 ∷ []), h)
    fits (inr e) h = omega (arith, ap (λ x. length x) e.1)

    stands : EndsInNul front bytes → IsBody before.little (text front) (number_bytes before.little w32 (length bytes) ++ bytes)
    stands (inl e) =
        inl (ap (λ x. number_bytes before.little w32 (length x) ++ x) e ∙ sym (text_body before.little front))
    stands (inr e) =
        inr (
          ap text e.1,
          ap (λ x. number_bytes before.little w32 (length x) ++ x) e.0
              ∙ append-nil (number_bytes before.little w32 0),
        )

-- eight bytes that were read as a number in the byte order of the cursor are that number's bytes
pub takes_le : (body : List ℕ) (n : ℕ) (before after : Cursor) → before.little ≡ true → ((i : ℕ) → get_or body i 0 < 256) → n ≡ from_le_bytes w64 body
    → Takes 8 body before after → Takes 8 (number_bytes before.little w64 n) before after
takes_le body n before after little bytes is_n taken =
    subst (λ (x : List ℕ). Takes 8 x before after)
    (sym (ap (λ b. number_bytes b w64 n) little ∙ le_bytes_8 body n taken.sized bytes is_n))
    taken

pub takes_be : (body : List ℕ) (n : ℕ) (before after : Cursor) → before.little ≡ false → ((i : ℕ) → get_or body i 0 < 256) → n ≡ from_be_bytes w64 body
    → Takes 8 body before after → Takes 8 (number_bytes before.little w64 n) before after
takes_be body n before after little bytes is_n taken =
    subst (λ (x : List ℕ). Takes 8 x before after)
    (sym (ap (λ b. number_bytes b w64 n) little ∙ be_bytes_8 body n taken.sized bytes is_n))
    taken
