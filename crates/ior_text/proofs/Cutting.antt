-- A text that is cut at its first byte s, and its parts between the bytes s.
use Rattle.std.proofs.Common.{◌≡◌, ℕ, ◌+◌, ◌==◌, Bool, true, false, not, List, [], ◌∷◌, ◌++◌, length, Some, None, cond, refl, ◌∙◌, ap, arith}
use Rattle.std.specs.List.{slice_split, onto_first, list_all}
use Rattle.std.proofs.lemmas.Bool.{and_parts, and_from, not-true, eq-eqb}
use Rattle.std.proofs.lemmas.List.Folds.{list_all-append}
use Rattle.ior_text.specs.Cut.{before, behind}

-- the parts of a text between the bytes s
abbrev pub parts_of : ℕ → List ℕ → List (List ℕ)
parts_of s text = slice_split (λ c. c == s) text

-- no byte of the text is s
abbrev pub lacks : ℕ → List ℕ → Bool
lacks s text = list_all (λ c. not (c == s)) text

first_part_by :
    (s c : ℕ) (cs : List ℕ) (b : Bool) → (others : List (List ℕ)) × (parts_of s cs ≡ before s cs ∷ others) →
    (others : List (List ℕ))
    × (cond b ([] ∷ parts_of s cs) (onto_first c (parts_of s cs)) ≡ cond b [] (c ∷ before s cs) ∷ others)
first_part_by s c cs true first = (parts_of s cs, refl)
first_part_by s c cs false first = (first.0, ap (onto_first c) first.1)

-- the first part stands before the byte
pub first_part : (s : ℕ) (text : List ℕ) → (others : List (List ℕ)) × (parts_of s text ≡ before s text ∷ others)
first_part s [] = ([], refl)
first_part s (c ∷ cs) = first_part_by s c cs (c == s) (first_part s cs)

one_part_by :
    (s c : ℕ) (cs : List ℕ) (b : Bool) → (behind s cs ≡ None → parts_of s cs ≡ before s cs ∷ []) →
    cond b (Some cs) (behind s cs) ≡ None →
    cond b ([] ∷ parts_of s cs) (onto_first c (parts_of s cs)) ≡ cond b [] (c ∷ before s cs) ∷ []
one_part_by s c cs true others none = cc
one_part_by s c cs false others none = ap (onto_first c) (others none)

-- a text without the byte is its one part
pub one_part : (s : ℕ) (text : List ℕ) → behind s text ≡ None → parts_of s text ≡ before s text ∷ []
one_part s [] none = refl
one_part s (c ∷ cs) none = one_part_by s c cs (c == s) (one_part s cs) none

more_parts_by :
    (s c : ℕ) (cs rest : List ℕ) (b : Bool) → (behind s cs ≡ Some rest → parts_of s cs ≡ before s cs ∷ parts_of s rest) →
    cond b (Some cs) (behind s cs) ≡ Some rest →
    cond b ([] ∷ parts_of s cs) (onto_first c (parts_of s cs)) ≡ cond b [] (c ∷ before s cs) ∷ parts_of s rest
more_parts_by s c cs rest true others some = let same : cs ≡ rest = cc in ap (λ text. [] ∷ parts_of s text) same
more_parts_by s c cs rest false others some = ap (onto_first c) (others some)

-- the first part stands before the byte, and the others are those of what stands behind it
pub more_parts : (s : ℕ) (text rest : List ℕ) → behind s text ≡ Some rest → parts_of s text ≡ before s text ∷ parts_of s rest
more_parts s [] rest some = cc
more_parts s (c ∷ cs) rest some = more_parts_by s c cs rest (c == s) (more_parts s cs rest) some

lengths_by :
    (s c : ℕ) (cs rest : List ℕ) (b : Bool) →
    (behind s cs ≡ Some rest → length cs ≡ length (before s cs) + 1 + length rest) →
    cond b (Some cs) (behind s cs) ≡ Some rest →
    length (c ∷ cs) ≡ length (cond b [] (c ∷ before s cs)) + 1 + length rest
lengths_by s c cs rest true others some = let same : cs ≡ rest = cc in omega (arith, ap length same)
lengths_by s c cs rest false others some = omega (arith, others some)

pub lengths : (s : ℕ) (text rest : List ℕ) → behind s text ≡ Some rest → length text ≡ length (before s text) + 1 + length rest
lengths s [] rest some = cc
lengths s (c ∷ cs) rest some = lengths_by s c cs rest (c == s) (lengths s cs rest) some

-- a text that lacks the byte stands before it
pub all_before : (s : ℕ) (text : List ℕ) → lacks s text ≡ true → before s text ≡ text
all_before s [] none = refl
all_before s (c ∷ cs) none =
    let first = and_parts (not (c == s)) (lacks s cs) none in
    rw (not-true (c == s) first.0, all_before s cs first.1) refl

pub none_behind : (s : ℕ) (text : List ℕ) → lacks s text ≡ true → behind s text ≡ None
none_behind s [] none = refl
none_behind s (c ∷ cs) none =
    let first = and_parts (not (c == s)) (lacks s cs) none in
    rw (not-true (c == s) first.0, none_behind s cs first.1) refl

-- behind a text that lacks the byte, the byte cuts
pub cut_before : (s : ℕ) (text rest : List ℕ) → lacks s text ≡ true → before s (text ++ s ∷ rest) ≡ text
cut_before s [] rest none = rw (eq-eqb s s refl) refl
cut_before s (c ∷ cs) rest none =
    let first = and_parts (not (c == s)) (lacks s cs) none in
    rw (not-true (c == s) first.0, cut_before s cs rest first.1) refl

pub cut_behind : (s : ℕ) (text rest : List ℕ) → lacks s text ≡ true → behind s (text ++ s ∷ rest) ≡ Some rest
cut_behind s [] rest none = rw (eq-eqb s s refl) refl
cut_behind s (c ∷ cs) rest none =
    let first = and_parts (not (c == s)) (lacks s cs) none in
    rw (not-true (c == s) first.0, cut_behind s cs rest first.1) refl

-- two texts that lack the byte, one behind the other
pub lacks-append : (s : ℕ) (xs ys : List ℕ) → lacks s xs ≡ true → lacks s ys ≡ true → lacks s (xs ++ ys) ≡ true
lacks-append s xs ys front back = list_all-append (λ c. not (c == s)) xs ys ∙ and_from (lacks s xs) (lacks s ys) front back

-- what passes a test that the byte fails lacks it
pub lacks_by : (s : ℕ) (test : ℕ → Bool) → ((c : ℕ) → test c ≡ true → not (c == s) ≡ true) → (text : List ℕ) → list_all test text ≡ true → lacks s text ≡ true
lacks_by s test other [] passes = refl
lacks_by s test other (c ∷ cs) passes =
    let first = and_parts (test c) (list_all test cs) passes in
    and_from (not (c == s)) (lacks s cs) (other c first.0) (lacks_by s test other cs first.1)
