-- A good part keeps the open messages together within their limit.
use Rattle.std.proofs.Common.{◌≡◌, ℕ, ◌+◌, ◌-◌, ◌≤◌, true, false, Option, Some, None, List, length, refl, arith, ⊎_elim}
use Rattle.std.proofs.lemmas.Bool.{cases_Bool}
use Rattle.std.proofs.lemmas.Bool.Decides.{nat_tests}
use Rattle.std.specs.Ordering.{nat_cmp}
use Rattle.std.specs.BTreeMap.{insert_entry}
use Rattle.std.specs.Map.{set_value, remove_entry}
use Rattle.std.specs.Option.{option_map_or}
use Rattle.std.proofs.lemmas.Map.Entries.{sum_by-remove_entry}
use Rattle.giop_frame.specs.declared.header.Header.{Header}
use Rattle.giop_frame.specs.declared.rules.TheConstants.{OPEN_LIMIT}
use Rattle.giop_frame.specs.Part.{header_of, id_of, opens, continues, id_end}
use Rattle.giop_frame.specs.Open.{Open, Opens, at_id, find_open, opened_by, joined, open_bytes, taken_bytes}
use Rattle.giop_frame.specs.Rules.{foreign_fault, size_fault, fragment_fault, id_fault, IsGood}
use Rattle.giop_frame.specs.Stream.{Reading, open_after}
use Rattle.giop_frame.proofs.Looking.{IsWhole, second_none, whole_from_look}
use Rattle.giop_frame.proofs.Sums.{weight-open, open_bytes-join, taken_bytes-join}

fragment_sum : (limit : ℕ) (pending : Opens) (h : Header) (found : Option Open) → fragment_fault limit pending h found ≡ None
    → open_bytes pending + (h.size - 4) ≤ OPEN_LIMIT
fragment_sum limit pending h None e = grind (arith, nat_tests)
fragment_sum limit pending h (Some o) e = grind (arith, nat_tests)

start_sum : (limit : ℕ) (pending : Opens) (h : Header) → size_fault limit pending h ≡ None → opens h ≡ true → open_bytes pending + 12 + h.size ≤ OPEN_LIMIT
start_sum limit pending h e o = grind (arith, nat_tests)

start_opens : (limit : ℕ) (pending : Opens) (h : Header) → size_fault limit pending h ≡ None → h.more ≡ true → continues h ≡ false → opens h ≡ true
start_opens limit pending h e more first = grind (arith, nat_tests)

start_absent : (limit : ℕ) (pending : Opens) (part : List ℕ) → id_fault limit pending part ≡ None → continues (header_of part) ≡ false
    → opens (header_of part) ≡ true
    → find_open (id_of part) pending ≡ None
start_absent limit pending part e first o = grind (arith, nat_tests)

pub fragment_good : (limit : ℕ) (pending : Opens) (part : List ℕ) → id_fault limit pending part ≡ None → continues (header_of part) ≡ true
    → fragment_fault limit pending (header_of part) (find_open (id_of part) pending) ≡ None
fragment_good limit pending part e more = grind (arith, nat_tests)

id_seen : (h : Header) (n : ℕ) → continues h ≡ true → id_end h ≤ n → 16 ≤ n
id_seen h n c e = grind (arith, nat_tests)

id_opened : (h : Header) (n : ℕ) → opens h ≡ true → id_end h ≤ n → 16 ≤ n
id_opened h n o e = grind (arith, nat_tests)

-- a good part that opens a message
pub record Starts (pending : Opens) (part : List ℕ) : Type 0 where
  pub id : 16 ≤ length part
  pub absent : find_open (id_of part) pending ≡ None
  pub fits : open_bytes pending + length part ≤ OPEN_LIMIT

pub starts : (pending : Opens) (part : List ℕ) → IsGood pending part → (header_of part).more ≡ true → continues (header_of part) ≡ false
    → Starts pending part
starts pending part good more first =
    let limit = good.0 in
    let h = header_of part in
    let w = whole_from_look limit pending part (length part) good.1 in
    let sound : size_fault limit pending h ≡ None = second_none (foreign_fault part) (size_fault limit pending h) w.sound in
    let o = start_opens limit pending h sound more first in
    let sum = start_sum limit pending h sound o in
    record {
      id = id_opened h (length part) o w.id;
      absent = start_absent limit pending part w.placed first o;
      fits = omega (arith, sum, w.size);
    }

-- what each kind of part does to the open messages
pub record Keeps (pending left : Opens) (part : List ℕ) : Type 0 where
  pub bytes : open_bytes left ≤ OPEN_LIMIT
  pub taken : taken_bytes left ≤ taken_bytes pending + length part

removed : (pending : Opens) (id : ℕ) (part : List ℕ) → open_bytes pending ≤ OPEN_LIMIT → Keeps pending (remove_entry (at_id id) pending) part
removed pending id part within =
    let b = sum_by-remove_entry (λ o. length o.bytes) (at_id id) pending in
    let t = sum_by-remove_entry (λ o. o.taken) (at_id id) pending in
    record { bytes = omega (arith, b, within); taken = omega (arith, t) }

joined_in : (pending : Opens) (id : ℕ) (part : List ℕ) (found : Option Open) → find_open id pending ≡ found → 16 ≤ length part
    → open_bytes pending + (length part - 16) ≤ OPEN_LIMIT
    → Keeps pending (option_map_or (λ o. set_value (at_id id) pending (joined o part)) found pending) part
joined_in pending id part None is long fits = record { bytes = omega (arith, fits); taken = omega arith }
joined_in pending id part (Some o) is long fits =
    let b = open_bytes-join pending id o part is long in
    let t = taken_bytes-join pending id o part is in
    record { bytes = omega (arith, b, fits); taken = omega (arith, t) }

opened_in : (pending : Opens) (id at : ℕ) (part : List ℕ) → find_open id pending ≡ None → open_bytes pending + length part ≤ OPEN_LIMIT
    → Keeps pending (insert_entry nat_cmp pending id (opened_by at part)) part
opened_in pending id at part absent fits =
    let b = weight-open (λ o. length o.bytes) pending id (opened_by at part) absent in
    let t = weight-open (λ o. o.taken) pending id (opened_by at part) absent in
    record { bytes = omega (arith, b, fits); taken = omega (arith, t) }

pub bounds_kept : (limit : ℕ) (r : Reading) (part : List ℕ) → IsWhole limit r.pending part (length part) → open_bytes r.pending ≤ OPEN_LIMIT
    → Keeps r.pending (open_after r part) part
bounds_kept limit r part w within =
    let h = header_of part in
    let id = id_of part in
    let sound : size_fault limit r.pending h ≡ None = second_none (foreign_fault part) (size_fault limit r.pending h) w.sound in
    ⊎_elim
    (λ (c : continues h ≡ true). ⊎_elim
    (λ (m : h.more ≡ true).
    let long = id_seen h (length part) c w.id in
    let fits = fragment_sum limit r.pending h (find_open id r.pending) (fragment_good limit r.pending part w.placed c) in
    simp (c, m) (joined_in r.pending id part (find_open id r.pending) refl long (omega (arith, fits, w.size))))
    (λ (m : h.more ≡ false). simp (c, m) (removed r.pending id part within))
    (cases_Bool h.more))
    (λ (c : continues h ≡ false). ⊎_elim
    (λ (m : h.more ≡ true).
    let o = start_opens limit r.pending h sound m c in
    let fits = start_sum limit r.pending h sound o in
    simp (c, m) (opened_in r.pending id r.place part (start_absent limit r.pending part w.placed c o) (omega (arith, fits, w.size))))
    (λ (m : h.more ≡ false). simp (c, m) (record { bytes = within; taken = omega arith }))
    (cases_Bool h.more))
    (cases_Bool (continues h))
