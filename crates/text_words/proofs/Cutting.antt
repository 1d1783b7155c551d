-- What a cut at the byte s gives of a text that is put together.
use Rattle.std.proofs.Common.{◌≡◌, ℕ, ◌==◌, Bool, true, false, not, List, [], ◌∷◌, ◌++◌, refl, ap, ◌∙◌, cond, eq-eqb, length, map, filter, append_assoc}
use Rattle.std.proofs.lemmas.List.{map-append}
use denote.Ref.{Bor}
use Rattle.std.proofs.lemmas.Bool.{and_parts, not-true}
use Rattle.text_words.specs.Cuts.{onto, cut, lacks, parts_of}

-- a byte that isn't s stands in front of the first part
cut-other : (s c : ℕ) (end : List (List ℕ)) (cs : List ℕ) → (c == s) ≡ false → cut s end (c ∷ cs) ≡ onto c (cut s end cs)
cut-other s c end cs other = rw other refl

cut-here : (s : ℕ) (end : List (List ℕ)) (cs : List ℕ) → cut s end (s ∷ cs) ≡ [] ∷ cut s end cs
cut-here s end cs = rw (eq-eqb s s refl) refl

head_lacks : (s c : ℕ) (cs : List ℕ) → lacks s (c ∷ cs) ≡ true → ((c == s) ≡ false) × (lacks s cs ≡ true)
head_lacks s c cs h = let p = and_parts (not (c == s)) (lacks s cs) h in (not-true (c == s) p.0, p.1)

-- a first part and its end
pub cut-front : (s : ℕ) (end : List (List ℕ)) (a b : List ℕ) → lacks s a ≡ true → cut s end (a ++ s ∷ b) ≡ a ∷ cut s end b
cut-front s end [] b h = cut-here s end b
cut-front s end (c ∷ cs) b h =
    let p = head_lacks s c cs h in
    cut-other s c end (cs ++ s ∷ b) p.0 ∙ ap (onto c) (cut-front s end cs b p.1)

-- a text that is one part
pub cut-alone : (s : ℕ) (a : List ℕ) → lacks s a ≡ true → cut s ([] ∷ []) a ≡ a ∷ []
cut-alone s [] h = refl
cut-alone s (c ∷ cs) h =
    let p = head_lacks s c cs h in
    cut-other s c ([] ∷ []) cs p.0 ∙ ap (onto c) (cut-alone s cs p.1)

-- a last part that no s ends
pub cut-last : (s c : ℕ) (cs : List ℕ) → lacks s (c ∷ cs) ≡ true → cut s [] (c ∷ cs) ≡ (c ∷ cs) ∷ []
cut-last s c [] h = let p = head_lacks s c [] h in cut-other s c [] [] p.0
cut-last s c (d ∷ ds) h =
    let p = head_lacks s c (d ∷ ds) h in
    cut-other s c [] (d ∷ ds) p.0 ∙ ap (onto c) (cut-last s d ds p.1)

-- a last part that isn't empty
pub cut-rest : (s : ℕ) (a : List ℕ) → lacks s a ≡ true → (length a == 0) ≡ false → cut s [] a ≡ a ∷ []
cut-rest s [] h filled = cc
cut-rest s (c ∷ cs) h filled = cut-last s c cs h

-- one more part was found
pub parts_further : (s : ℕ) (ws : List (Bor (List ℕ))) (x : Bor (List ℕ)) (rest after : List ℕ) (whole : List (List ℕ))
    → map (λ w. w.now) ws ++ parts_of s rest ≡ whole → rest ≡ x.now ++ s ∷ after → lacks s x.now ≡ true
    → map (λ w. w.now) (ws ++ x ∷ []) ++ parts_of s after ≡ whole
parts_further s ws x rest after whole so_far parted clear =
    rw (map-append, append_assoc, ← cut-front s ([] ∷ []) x.now after clear, ← parted) so_far

-- the last part was found
pub parts_ended : (s : ℕ) (ws : List (Bor (List ℕ))) (x : Bor (List ℕ)) (rest : List ℕ) (whole : List (List ℕ))
    → map (λ w. w.now) ws ++ parts_of s rest ≡ whole → rest ≡ x.now → lacks s x.now ≡ true
    → map (λ w. w.now) (ws ++ x ∷ []) ≡ whole
parts_ended s ws x rest whole so_far alone clear =
    rw (map-append, ← cut-alone s x.now clear, ← alone) so_far

-- the words that pass a test, seen or not
pub map-filter_now : (p : List ℕ → Bool) (xs : List (Bor (List ℕ)))
    → map (λ x. x.now) (filter (λ x. p x.now) xs) ≡ filter p (map (λ x. x.now) xs)
map-filter_now p [] = refl
map-filter_now p (x ∷ xs) =
    elim (p x.now) as (λ b. map (λ x. x.now) (cond b (x ∷ filter (λ x. p x.now) xs) (filter (λ x. p x.now) xs)) ≡ cond b
    (x.now ∷ filter p (map (λ x. x.now) xs)) (filter p (map (λ x. x.now) xs)))
    [ true ↦ ap (λ ys. x.now ∷ ys) (map-filter_now p xs) | false ↦ map-filter_now p xs ]
