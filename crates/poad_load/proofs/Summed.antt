-- The rows of a store one behind the other, and what is printed of counts.
use Rattle.std.proofs.Common.{◌≡◌, ℕ, ℤ, ◌+◌, ◌<◌, ◌≤◌, ◌+ℤ◌, List, [], ◌∷◌, drop, get_or, length, map, refl, sym, ap, ◌∙◌, ◌++◌, append_assoc}
use Rattle.poa_base.specs.declared.Row.{Row}
use Rattle.poa_base.specs.Rows.{row_seen}
use Rattle.replay_run.proofs.Listed.{front, past}
use Rattle.poad_load.specs.Counts.{lines_of, register_in, sum_of, sum_with}

pub rows_more : (rows : List Row) (i : ℕ) (row : Row) → i < length rows → row ≡ get_or rows i row → (sum more : ℤ) → more ≡ sum +ℤ register_in row.state.now
    → sum_with sum (map row_seen (drop i rows)) ≡ sum_of (map row_seen rows) → sum_with more (map row_seen (drop (i + 1) rows)) ≡ sum_of (map row_seen rows)
rows_more rows i row less is sum more added all =
    ap (λ (s : ℤ). sum_with s (map row_seen (drop (i + 1) rows))) added
    ∙ (sym (ap (λ (rest : List Row). sum_with sum (map row_seen rest)) (front rows i row less is)) ∙ all)

pub rows_end : (rows : List Row) (i : ℕ) → length rows ≤ i → (sum : ℤ) → sum_with sum (map row_seen (drop i rows)) ≡ sum_of (map row_seen rows)
    → sum ≡ sum_of (map row_seen rows)
rows_end rows i more sum all = sym (ap (λ (rest : List Row). sum_with sum (map row_seen rest)) (past rows i more)) ∙ all

-- the lines of equal counts
pub lines_same : (calls a b c d a' b' c' d' : ℕ) (s s' : ℤ) (text : List ℕ) → text ≡ lines_of calls a b c d s → a ≡ a' → b ≡ b' → c ≡ c' → d ≡ d' → s ≡ s'
    → text ≡ lines_of calls a' b' c' d' s'
lines_same calls a b c d a' b' c' d' s s' text is e f g h k = is ∙ (rw (e, f, g, h, k) refl)

-- six pieces one behind the other
pub six_added : (o a b c d e f o1 o2 o3 o4 o5 o6 : List ℕ) → o ≡ [] → o1 ≡ o ++ a → o2 ≡ o1 ++ b → o3 ≡ o2 ++ c → o4 ≡ o3 ++ d → o5 ≡ o4 ++ e → o6 ≡ o5 ++ f
    → o6 ≡ a ++ (b ++ (c ++ (d ++ (e ++ f))))
six_added o a b c d e f o1 o2 o3 o4 o5 o6 p0 p1 p2 p3 p4 p5 p6 =
    let q1 : o1 ≡ a = p1 ∙ ap (λ (x : List ℕ). x ++ a) p0 in
    let q2 : o2 ≡ a ++ b = p2 ∙ ap (λ (x : List ℕ). x ++ b) q1 in
    let q3 : o3 ≡ (a ++ b) ++ c = p3 ∙ ap (λ (x : List ℕ). x ++ c) q2 in
    let q4 : o4 ≡ ((a ++ b) ++ c) ++ d = p4 ∙ ap (λ (x : List ℕ). x ++ d) q3 in
    let q5 : o5 ≡ (((a ++ b) ++ c) ++ d) ++ e = p5 ∙ ap (λ (x : List ℕ). x ++ e) q4 in
    p6 ∙ (ap (λ (x : List ℕ). x ++ f) q5
    ∙ (append_assoc (((a ++ b) ++ c) ++ d) e f
    ∙ (append_assoc ((a ++ b) ++ c) d (e ++ f) ∙ (append_assoc (a ++ b) c (d ++ (e ++ f)) ∙ append_assoc a b (c ++ (d ++ (e ++ f)))))))
