-- The text of lines put together.
use Rattle.std.proofs.Common.{◌≡◌, ℕ, ◌+◌, suc, zero, List, [], ◌∷◌, ◌++◌, map, drop, Some, None, refl, ap, sym, ◌∙◌, append_assoc, arith}
use Rattle.std.specs.List.{slice_get}
use Rattle.poa_base.specs.declared.Entry.{Entry}
use Rattle.poa_journal.specs.Entry.{entry_tokens}
use Rattle.text_words.specs.Token.{Token, spelled}
use Rattle.poa_journal.specs.Journal.{text_of}

text_of-append : (a b : List (List Token)) → text_of (a ++ b) ≡ text_of a ++ text_of b
text_of-append [] b = refl
text_of-append (l ∷ ls) b = ap (λ t. spelled l ++ 10 ∷ t) (text_of-append ls b) ∙ simp append_assoc

-- lines, and more behind them
pub printed : (before lines : List (List Token)) (first second : List ℕ) → first ≡ text_of before → second ≡ first ++ text_of lines
    → second ≡ text_of (before ++ lines)
printed before lines first second one two = two ∙ (ap (λ t. t ++ text_of lines) one ∙ sym (text_of-append before lines))

-- one line more of those that are left
pub line_more : (out' out : List ℕ) (es : List Entry) (i : ℕ) (e : Entry) (all : List ℕ) → out' ≡ out ++ text_of (entry_tokens e ∷ []) → Some e ≡ slice_get es i
    → out ++ text_of (map entry_tokens (drop i es)) ≡ all → out' ++ text_of (map entry_tokens (drop (i + 1) es)) ≡ all
line_more out' out es i e all put there had =
    ap (λ t. t ++ text_of (map entry_tokens (drop (i + 1) es))) put
    ∙ (append_assoc out (text_of (entry_tokens e ∷ [])) (text_of (map entry_tokens (drop (i + 1) es)))
    ∙ (ap (λ t. out ++ t)
    (sym (text_of-append (entry_tokens e ∷ []) (map entry_tokens (drop (i + 1) es))) ∙ ap (λ xs. text_of (map entry_tokens xs)) (sym (dropped es i there)))
    ∙ had))
  where
    dropped : (xs : List Entry) (k : ℕ) → Some e ≡ slice_get xs k → drop k xs ≡ e ∷ drop (k + 1) xs
    dropped [] k is = absurd (let x : Some e ≡ None = is in cc)
    dropped (x ∷ xs) zero is = ap (λ y. y ∷ xs) (let same : Some x ≡ Some e = sym is in cc)
    dropped (x ∷ xs) (suc k) is = dropped xs k is ∙ ap (λ n. e ∷ drop n (x ∷ xs)) (let n : suc (k + 1) ≡ suc k + 1 = omega arith in n)
