-- Whether counted octets or a string stand at a cursor is decided.
use Rattle.std.proofs.Common.{◌≡◌, ℕ, ◌+◌, ◌≤◌, List, [], ◌∷◌, ◌++◌, length, take, drop, refl, sym, ap, subst, arith, inl, inr, length-append}
use Rattle.std.proofs.lemmas.List.{take-append-drop, length-take-le}
use Rattle.cdr_core.specs.Field.{ulong, text, octets}
use Rattle.cdr_core.specs.Cursor.{Cursor, Reads, Counts, EndsInNul}
use Rattle.cdr_core.proofs.OneReading.{one_ulong_read, one_count, octets_counts, text_counts}
use Rattle.cdr_core.proofs.Passing.{octets_counted, text_counted}
use Rattle.giop_msg.proofs.Deciding.{Decided, decided_as, at_most_decided, is_decided, decided_then, Stands, StandsThen}
use Rattle.giop_msg.proofs.Numbers.{ulong_decided}

-- a length, and as many bytes
count_there : (c : Cursor) → StandsThen ℕ (λ (n : ℕ). Reads (ulong n)) (λ (n : ℕ) (a : Cursor). n ≤ length a.rest) c → Stands (List ℕ) Counts c
count_there c s =
    let bytes = take s.0 s.1.rest in
    let long : length bytes ≡ s.0 = length-take-le s.0 s.1.rest s.3 in (
      bytes,
      record { little = s.1.little; place = s.1.place + length bytes; rest = drop s.0 s.1.rest },
      record {
        behind = s.1;
        counted = subst (λ (n : ℕ). Reads (ulong n) c s.1) (sym long) s.2;
        passed = record { order = refl; moved = refl; split = sym (take-append-drop s.0 s.1.rest) };
      },
    )

count_back : (c : Cursor) → Stands (List ℕ) Counts c → StandsThen ℕ (λ (n : ℕ). Reads (ulong n)) (λ (n : ℕ) (a : Cursor). n ≤ length a.rest) c
count_back c s =
    (length s.0, s.2.behind, s.2.counted, omega (arith, ap (λ l. length l) s.2.passed.split, length-append s.0 s.1.rest))

pub count_decided : (c : Cursor) → Decided (Stands (List ℕ) Counts c)
count_decided c =
    decided_as (StandsThen ℕ (λ (n : ℕ). Reads (ulong n)) (λ (n : ℕ) (a : Cursor). n ≤ length a.rest) c) (Stands (List ℕ) Counts c) (count_there c)
    (count_back c)
    (decided_then ℕ (λ (n : ℕ). Reads (ulong n)) (λ (n : ℕ) (a : Cursor). n ≤ length a.rest) c (λ m n a b p q. one_ulong_read m n c a b p q)
    (λ n a. at_most_decided n (length a.rest)) (ulong_decided c))

pub octets_decided : (c : Cursor) → Decided (Stands (List ℕ) (λ (xs : List ℕ). Reads (octets xs)) c)
octets_decided c =
    decided_as (Stands (List ℕ) Counts c) (Stands (List ℕ) (λ (xs : List ℕ). Reads (octets xs)) c)
    (λ s. (s.0, s.1, octets_counted s.0 s.0 c c s.1 refl refl s.2))
    (λ s. (s.0, s.1, octets_counts s.0 c s.1 s.2))
    (count_decided c)

-- the text that the bytes of a string are
abbrev HasFront : List ℕ → Type 0
HasFront bytes = (front : List ℕ) × EndsInNul front bytes

last_decided : (x : ℕ) → Decided (x ≡ 0) → Decided (HasFront (x ∷ []))
last_decided x (inl nul) = inl ([], inl (ap (λ (n : ℕ). n ∷ []) nul))
last_decided x (inr other) = inr (λ h. no h.0 h.1)
  where
    no : (front : List ℕ) → EndsInNul front (x ∷ []) → ⊥
    no [] (inl e) = other (cc)
    no (y ∷ []) (inl e) = cc
    no (y ∷ z ∷ ys) (inl e) = cc
    no front (inr e) = cc (e.0)

more_decided : (x y : ℕ) (bytes : List ℕ) → Decided (HasFront (y ∷ bytes)) → Decided (HasFront (x ∷ y ∷ bytes))
more_decided x y bytes (inl h) = inl (more h.0 h.1)
  where
    more : (front : List ℕ) → EndsInNul front (y ∷ bytes) → HasFront (x ∷ y ∷ bytes)
    more front (inl e) = (x ∷ front, inl (ap (λ (l : List ℕ). x ∷ l) e))
    more front (inr e) = let no : ⊥ = cc (e.0) in absurd no
more_decided x y bytes (inr none) = inr (λ h. no h.0 h.1)
  where
    no : (front : List ℕ) → EndsInNul front (x ∷ y ∷ bytes) → ⊥
    no [] (inl e) = cc
    no (z ∷ zs) (inl e) = let tail : y ∷ bytes ≡ zs ++ 0 ∷ [] = cc in none (zs, inl tail)
    no front (inr e) = cc (e.0)

front_decided : (bytes : List ℕ) → Decided (HasFront bytes)
front_decided [] = inl ([], inr (refl, refl))
front_decided (x ∷ []) = last_decided x (is_decided x 0)
front_decided (x ∷ y ∷ bytes) = more_decided x y bytes (front_decided (y ∷ bytes))

text_there : (c : Cursor) → StandsThen (List ℕ) Counts (λ (bytes : List ℕ) (a : Cursor). HasFront bytes) c
    → Stands (List ℕ) (λ (xs : List ℕ). Reads (text xs)) c
text_there c s = (s.3.0, s.1, text_counted s.0 s.3.0 s.3.0 c c s.1 refl refl s.3.1 s.2)

text_back : (c : Cursor) → Stands (List ℕ) (λ (xs : List ℕ). Reads (text xs)) c → StandsThen (List ℕ) Counts (λ (bytes : List ℕ) (a : Cursor). HasFront bytes) c
text_back c s = let counts = text_counts s.0 c s.1 s.2 in (counts.0, s.1, counts.1.1, (s.0, counts.1.0))

pub text_decided : (c : Cursor) → Decided (Stands (List ℕ) (λ (xs : List ℕ). Reads (text xs)) c)
text_decided c =
    decided_as (StandsThen (List ℕ) Counts (λ (bytes : List ℕ) (a : Cursor). HasFront bytes) c) (Stands (List ℕ) (λ (xs : List ℕ). Reads (text xs)) c)
    (text_there c) (text_back c)
    (decided_then (List ℕ) Counts (λ (bytes : List ℕ) (a : Cursor). HasFront bytes) c (λ xs ys a b p q. one_count xs ys c a b p q)
    (λ bytes a. front_decided bytes) (count_decided c))
