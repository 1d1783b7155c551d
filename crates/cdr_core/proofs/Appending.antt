-- One append after another.
use Rattle.std.proofs.Common.{◌≡◌, ℕ, ◌<◌, List, ◌++◌, take, replicate, ap, ◌∙◌, arith, append_assoc}
use Rattle.std.proofs.lemmas.List.{take-replicate}

-- four appends, of which the first is of a front of eight zeros
pub appended : (gap : ℕ) (old head body tail first second third all : List ℕ) → gap < 8 → first ≡ old ++ take gap (replicate 8 0) → second ≡ first ++ head
    → third ≡ second ++ body → all ≡ third ++ tail → all ≡ old ++ (replicate gap 0 ++ head ++ body ++ tail)
appended gap old head body tail first second third all small e1 e2 e3 e4 =
    let zeros : take gap (replicate 8 0) ≡ replicate gap 0 = take-replicate gap 8 0 (omega arith) in
    e4
    ∙ ap (λ x. x ++ tail) (e3 ∙ ap (λ x. x ++ body) (e2 ∙ ap (λ x. x ++ head) (e1 ∙ ap (λ x. old ++ x) zeros)))
    ∙ ap (λ x. x ++ body ++ tail) (append_assoc old (replicate gap 0) head)
    ∙ ap (λ x. x ++ tail) (append_assoc old (replicate gap 0 ++ head) body)
    ∙ append_assoc old (replicate gap 0 ++ head ++ body) tail
