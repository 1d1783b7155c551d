-- Fields that are written behind other bytes.
use Rattle.std.proofs.Common.{◌≡◌, ℕ, ◌+◌, ◌%◌, List, [], ◌∷◌, ◌++◌, length, replicate, ap, ◌∙◌, arith, append_assoc, length-append}
use Rattle.cdr_core.specs.Kind.{Kind, Octet, UShort, ULong, LongLong, Boolean, Text, Octets, unit_of}
use Rattle.cdr_core.specs.Field.{Field, kind_of}
use Rattle.cdr_core.specs.Spelling.{gap, body_of, written}
use Rattle.cdr_core.specs.Draft.{Draft, with_field}
use Rattle.cdr_core.specs.Laws.{IsBehind, WrittenBehind}

-- a field has the same padding at places that the largest unit aligns alike
same_gap : (kind : Kind) (p q : ℕ) → p % 8 ≡ q % 8 → gap (unit_of kind) p ≡ gap (unit_of kind) q
same_gap Octet p q same = omega (arith, same)
same_gap UShort p q same = omega (arith, same)
same_gap ULong p q same = omega (arith, same)
same_gap LongLong p q same = omega (arith, same)
same_gap Boolean p q same = omega (arith, same)
same_gap Text p q same = omega (arith, same)
same_gap Octets p q same = omega (arith, same)

written_behind_field : (front : List ℕ) (field : Field) (d e : Draft) → IsBehind front d e → IsBehind front (with_field field d) (with_field field e)
written_behind_field front field d e behind =
    let p : ℕ = d.base + length d.bytes in
    let q : ℕ = e.base + length e.bytes in
    let u : List ℕ = written d.little p field in
    let w : List ℕ = written e.little q field in
    let same : u ≡ w =
    ap (λ n. replicate n 0 ++ body_of d.little field) (same_gap (kind_of field) p q behind.aligned)
    ∙ ap (λ b. replicate (gap (unit_of (kind_of field)) q) 0 ++ body_of b field) behind.order in
    record {
      order = behind.order;
      bytes = ap (λ x. x ++ u) behind.bytes ∙ (ap (λ x. (front ++ e.bytes) ++ x) same ∙ append_assoc front e.bytes w);
      aligned = omega (arith, behind.aligned, length-append d.bytes u, length-append e.bytes w, ap (λ (x : List ℕ). length x) same);
    }

pub written_behind : WrittenBehind
written_behind front [] d e behind = behind
written_behind front (field ∷ fields) d e behind =
    written_behind front fields (with_field field d) (with_field field e) (written_behind_field front field d e behind)
