-- Where a kind is refused no field of it stands, and it is refused with one fault.
use Rattle.std.proofs.Common.{◌≡◌, ℕ, ◌+◌, ◌-◌, ◌<◌, ◌≤◌, Bool, true, false, List, [], ◌∷◌, ◌++◌, length, get_or, sym, ap, ◌∙◌, inl, inr, arith, append_assoc, length-append}
use Rattle.std.proofs.lemmas.List.{get_or_at}
use Rattle.cdr_core.specs.declared.fault.CdrFault.{CdrFault}
use Rattle.cdr_core.specs.declared.fault.CdrFault.TheVariants.{Short, BadBool}
use Rattle.cdr_core.specs.Kind.{Octet, UShort, ULong, LongLong, Boolean, Text, Octets, unit_of}
use Rattle.cdr_core.specs.Field.{Field, octet, ushort, ulong, longlong, boolean, text, octets, kind_of}
use Rattle.cdr_core.specs.Spelling.{gap}
use Rattle.cdr_core.specs.Cursor.{Cursor, Reads, Counts, EndsInNul, left}
use Rattle.cdr_core.specs.Refusal.{IsShort, IsNoBool, LacksBytes, LacksNul}
use Rattle.cdr_core.specs.Laws.{NoneWhereRefused, OneRefusal, NoSkipWhereLacking}
use Rattle.cdr_core.proofs.Bodies.{bit_of, one_body, body_length}
use Rattle.cdr_core.proofs.OneReading.{one_octet_read, one_ulong_read, octets_counts, text_counts}

-- where a field is read, at least as many bytes as its alignment are left behind the padding
not_short : (f : Field) (c a : Cursor) → Reads f c a → left (unit_of (kind_of f)) c < unit_of (kind_of f) → ⊥
not_short f c a p short =
    counted (length c.rest) (length p.bytes) (length a.rest) (length p.spelled.padding) (length p.spelled.body) (gap (unit_of (kind_of f)) c.place)
    (unit_of (kind_of f))
    (ap (λ l. length l) p.passed.split ∙ length-append p.bytes a.rest)
    (ap (λ l. length l) p.spelled.parts ∙ length-append p.spelled.padding p.spelled.body)
    p.spelled.aligned
    (body_length c.little f p.spelled.body p.spelled.stands) short
  where
    counted : (whole bytes after padding body gap_len unit : ℕ) → whole ≡ bytes + after → bytes ≡ padding + body → padding ≡ gap_len → unit ≤ body
        → whole - gap_len < unit → ⊥
    counted whole bytes after padding body gap_len unit e1 e2 e3 h lacks = omega arith

-- a boolean is an octet too, below 2
boolean_octet : (b : Bool) (c a : Cursor) → Reads (boolean b) c a → Reads (octet (bit_of b)) c a
boolean_octet b c a p =
    record {
      bytes = p.bytes;
      spelled = record {
        padding = p.spelled.padding;
        body = p.spelled.body;
        fits = small b;
        aligned = p.spelled.aligned;
        stands = inl (one_body c.little (boolean b) p.spelled.body (λ k. cc) p.spelled.stands);
        parts = p.spelled.parts;
      };
      passed = p.passed;
    }
  where
    small : (x : Bool) → bit_of x < 256
    small true = omega arith
    small false = omega arith

no_bool : (b : Bool) (c a : Cursor) (fault : CdrFault) → IsNoBool c fault → Reads (boolean b) c a → ⊥
no_bool b c a fault refused p =
    above b refused.value (one_octet_read refused.value (bit_of b) c refused.after a refused.read (boolean_octet b c a p)).0 refused.above
  where
    above : (x : Bool) (n : ℕ) → n ≡ bit_of x → 1 < n → ⊥
    above true n e h = omega (arith, e)
    above false n e h = omega (arith, e)

-- counted bytes are whole, where their count was read
not_fewer : (bytes : List ℕ) (c a : Cursor) (fault : CdrFault) → LacksBytes c fault → Counts bytes c a → ⊥
not_fewer bytes c a fault lacks p =
    let count : (lacks.len ≡ length bytes) × (lacks.after ≡ p.behind) =
    one_ulong_read lacks.len (length bytes) c lacks.after p.behind lacks.counted p.counted in
    omega (arith, lacks.fewer, count.0, ap (λ (x : Cursor). length x.rest) count.1, ap (λ l. length l) p.passed.split, length-append bytes a.rest)

-- a string ends in NUL, where its bytes are whole
has_nul : (xs bytes : List ℕ) (c a : Cursor) (fault : CdrFault) → LacksNul c fault → EndsInNul xs bytes → Counts bytes c a → ⊥
has_nul xs bytes c a fault lacks ends p =
    let count : (lacks.len ≡ length bytes) × (lacks.after ≡ p.behind) =
    one_ulong_read lacks.len (length bytes) c lacks.after p.behind lacks.counted p.counted in
    let rest : lacks.after.rest ≡ bytes ++ a.rest = ap (λ (x : Cursor). x.rest) count.1 ∙ p.passed.split in
    nul ends lacks.len lacks.after.rest count.0 rest lacks.some lacks.last
  where
    nul : EndsInNul xs bytes → (len : ℕ) (rest : List ℕ) → len ≡ length bytes → rest ≡ bytes ++ a.rest → 0 < len → (get_or rest (len - 1) 0 ≡ 0 → ⊥) → ⊥
    nul (inl e) len rest counted is_rest some last =
        last
        (ap (λ l. get_or l (len - 1) 0) (is_rest ∙ ap (λ l. l ++ a.rest) e ∙ append_assoc xs (0 ∷ []) a.rest)
        ∙ get_or_at xs 0 a.rest 0 (len - 1) (omega (arith, counted, ap (λ l. length l) e, length-append xs (0 ∷ []))))
    nul (inr e) len rest counted is_rest some last = omega (arith, counted, some, ap (λ l. length l) e.0)

pub none_where_refused : NoneWhereRefused
none_where_refused (octet n) c a fault r p = not_short (octet n) c a p r.0
none_where_refused (ushort n) c a fault r p = not_short (ushort n) c a p r.0
none_where_refused (ulong n) c a fault r p = not_short (ulong n) c a p r.0
none_where_refused (longlong n) c a fault r p = not_short (longlong n) c a p r.0
none_where_refused (boolean b) c a fault (inl r) p = not_short (boolean b) c a p r.0
none_where_refused (boolean b) c a fault (inr r) p = no_bool b c a fault r p
none_where_refused (text xs) c a fault (inl r) p = not_short (text xs) c a p r.0
none_where_refused (text xs) c a fault (inr (inl r)) p =
    let whole : (bytes : List ℕ) × (EndsInNul xs bytes × Counts bytes c a) = text_counts xs c a p in
    not_fewer whole.0 c a fault r whole.1.1
none_where_refused (text xs) c a fault (inr (inr r)) p =
    let whole : (bytes : List ℕ) × (EndsInNul xs bytes × Counts bytes c a) = text_counts xs c a p in
    has_nul xs whole.0 c a fault r whole.1.0 whole.1.1
none_where_refused (octets xs) c a fault (inl r) p = not_short (octets xs) c a p r.0
none_where_refused (octets xs) c a fault (inr r) p = not_fewer xs c a fault r (octets_counts xs c a p)

-- two short readings, lacks of bytes or bad booleans at one place are one
same_short : (size : ℕ) (c : Cursor) (d e : CdrFault) → IsShort size c d → IsShort size c e → d ≡ e
same_short size c d e p q = p.1 ∙ sym q.1

same_lack : (c : Cursor) (d e : CdrFault) → LacksBytes c d → LacksBytes c e → d ≡ e
same_lack c d e p q =
    let count : (p.len ≡ q.len) × (p.after ≡ q.after) =
    one_ulong_read p.len q.len c p.after q.after p.counted q.counted in
    p.told
    ∙ ap (λ n. Short n (length p.after.rest)) count.0
    ∙ ap (λ (x : Cursor). Short q.len (length x.rest)) count.1
    ∙ sym q.told

same_bad : (c : Cursor) (d e : CdrFault) → IsNoBool c d → IsNoBool c e → d ≡ e
same_bad c d e p q =
    p.told ∙ ap BadBool (one_octet_read p.value q.value c p.after q.after p.read q.read).0 ∙ sym q.told

-- bytes can't be too few and enough
few_or_enough : (c : Cursor) (d e : CdrFault) → LacksBytes c d → LacksNul c e → ⊥
few_or_enough c d e p q =
    let count : (p.len ≡ q.len) × (p.after ≡ q.after) =
    one_ulong_read p.len q.len c p.after q.after p.counted q.counted in
    omega (arith, p.fewer, q.whole, count.0, ap (λ (x : Cursor). length x.rest) count.1)

pub one_refusal : OneRefusal
one_refusal Octet c d e p q = same_short 1 c d e p q
one_refusal UShort c d e p q = same_short 2 c d e p q
one_refusal ULong c d e p q = same_short 4 c d e p q
one_refusal LongLong c d e p q = same_short 8 c d e p q
one_refusal Boolean c d e (inl p) (inl q) = same_short 1 c d e p q
one_refusal Boolean c d e (inl p) (inr q) = absurd (not_short (octet q.value) c q.after q.read p.0)
one_refusal Boolean c d e (inr p) (inl q) = absurd (not_short (octet p.value) c p.after p.read q.0)
one_refusal Boolean c d e (inr p) (inr q) = same_bad c d e p q
one_refusal Text c d e (inl p) (inl q) = same_short 4 c d e p q
one_refusal Text c d e (inl p) (inr (inl q)) = absurd (not_short (ulong q.len) c q.after q.counted p.0)
one_refusal Text c d e (inl p) (inr (inr q)) = absurd (not_short (ulong q.len) c q.after q.counted p.0)
one_refusal Text c d e (inr (inl p)) (inl q) = absurd (not_short (ulong p.len) c p.after p.counted q.0)
one_refusal Text c d e (inr (inl p)) (inr (inl q)) = same_lack c d e p q
one_refusal Text c d e (inr (inl p)) (inr (inr q)) = absurd (few_or_enough c d e p q)
one_refusal Text c d e (inr (inr p)) (inl q) = absurd (not_short (ulong p.len) c p.after p.counted q.0)
one_refusal Text c d e (inr (inr p)) (inr (inl q)) = absurd (few_or_enough c e d q p)
one_refusal Text c d e (inr (inr p)) (inr (inr q)) = p.told ∙ sym q.told
one_refusal Octets c d e (inl p) (inl q) = same_short 4 c d e p q
one_refusal Octets c d e (inl p) (inr q) = absurd (not_short (ulong q.len) c q.after q.counted p.0)
one_refusal Octets c d e (inr p) (inl q) = absurd (not_short (ulong p.len) c p.after p.counted q.0)
one_refusal Octets c d e (inr p) (inr q) = same_lack c d e p q

pub no_skip_where_lacking : NoSkipWhereLacking
no_skip_where_lacking unit c a fault lacks p =
    omega (arith, lacks.0, p.aligned, ap (λ l. length l) p.passed.split, length-append p.padding a.rest)
