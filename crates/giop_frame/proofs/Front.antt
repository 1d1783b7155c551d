-- A part's front says the same of it, whatever follows.
use Rattle.std.proofs.Common.{◌≡◌, ℕ, ◌+◌, ◌<◌, ◌≤◌, Bool, true, false, ◌&&◌, ◌||◌, ⊎_elim, cond, Option, Some, None, List, ◌++◌, length, slice_index, refl, ap, sym, arith, bit_and, nat_eq}
use Rattle.std.proofs.lemmas.List.{get_or_append_left, take-append-le}
use Rattle.std.proofs.lemmas.Bool.{false≢true, cases_Bool}
use Rattle.std.specs.Option.{is_some}
use Rattle.giop_frame.specs.declared.why.Why.{Why}
use Rattle.giop_frame.specs.declared.why.Why.TheVariants.{BadFragment}
use Rattle.giop_frame.specs.Part.{header_of, is_little, id_of, ulong_at, opens, continues, id_end}
use Rattle.giop_frame.specs.Open.{Opens, find_open}
use Rattle.giop_frame.specs.Rules.{foreign_fault, header_fault, id_fault, fragment_fault}

at : (p q : List ℕ) (i : ℕ) → i < length p → slice_index (p ++ q) i ≡ slice_index p i
at p q i h = get_or_append_left p q 0 i h

is_little-front : (p q : List ℕ) → 12 ≤ length p → is_little (p ++ q) ≡ is_little p
unfolding is_little
is_little-front p q h = ap (λ n. nat_eq (bit_and n 1) 1) (at p q 6 (omega arith))

ulong_at-front : (little : Bool) (p q : List ℕ) (i : ℕ) → i + 4 ≤ length p → ulong_at little (p ++ q) i ≡ ulong_at little p i
unfolding ulong_at
ulong_at-front little p q i h =
    rw (at p q i (omega arith), at p q (i + 1) (omega arith), at p q (i + 2) (omega arith), at p q (i + 3) (omega arith))

pub header_of-front : (p q : List ℕ) → 12 ≤ length p → header_of (p ++ q) ≡ header_of p
unfolding header_of
header_of-front p q h =
    rw (is_little-front p q h, at p q 5 (omega arith), at p q 6 (omega arith), at p q 7 (omega arith), ulong_at-front (is_little p) p q 8 (omega arith))

pub id_of-front : (p q : List ℕ) → 16 ≤ length p → id_of (p ++ q) ≡ id_of p
unfolding id_of
id_of-front p q h = rw (is_little-front p q (omega arith), ulong_at-front (is_little p) p q 12 (omega arith))

foreign_fault-front : (p q : List ℕ) → 12 ≤ length p → foreign_fault (p ++ q) ≡ foreign_fault p
foreign_fault-front p q h =
    rw (take-append-le 4 p q (omega arith), at p q 4 (omega arith), at p q 5 (omega arith), at p q 7 (omega arith))

pub header_fault-front : (limit : ℕ) (pending : Opens) (p q : List ℕ) → 12 ≤ length p
    → header_fault limit pending (p ++ q) ≡ header_fault limit pending p
header_fault-front limit pending p q h = rw (foreign_fault-front p q h, header_of-front p q h)

-- a fault by the id, where c says that the part is a Fragment and o that it opens a message
by_id : Bool → Bool → Option Why → Bool → Option Why
by_id c o fault found = cond c fault (cond (o && found) (Some BadFragment) None)

by_id-none : (c o : Bool) (f g : Option Why) (s t : Bool) → (o || c) ≡ false → by_id c o f s ≡ by_id c o g t
unfolding by_id
by_id-none true true f g s t e = absurd (false≢true (sym e))
by_id-none true false f g s t e = absurd (false≢true (sym e))
by_id-none false true f g s t e = absurd (false≢true (sym e))
by_id-none false false f g s t e = refl

id_end-seen : (b : Bool) (n : ℕ) → b ≡ true → cond b 16 12 ≤ n → 16 ≤ n
id_end-seen true n e h = h
id_end-seen false n e h = absurd (false≢true e)

pub id_fault-front : (limit : ℕ) (pending : Opens) (p q : List ℕ) → 12 ≤ length p → id_end (header_of p) ≤ length p
    → id_fault limit pending (p ++ q) ≡ id_fault limit pending p
unfolding by_id
id_fault-front limit pending p q h far =
    let head = header_of p in
    ⊎_elim
    (λ seen. rw (header_of-front p q h, id_of-front p q (id_end-seen (opens head || continues head) (length p) seen far)))
    (λ none. rw (header_of-front p q h) (by_id-none (continues head) (opens head)
    (fragment_fault limit pending head (find_open (id_of (p ++ q)) pending)) (fragment_fault limit pending head (find_open (id_of p) pending))
    (is_some (find_open (id_of (p ++ q)) pending)) (is_some (find_open (id_of p) pending)) none))
    (cases_Bool (opens head || continues head))
