-- What trimming the end of a line leaves.
use Rattle.std.proofs.Common.{◌≡◌, ℕ, Bool, true, false, cond, List, [], ◌∷◌, ◌++◌, reverse, sym, ap, ◌∙◌}
use Rattle.std.proofs.lemmas.List.{reverse-append, reverse-reverse}
use Rattle.replay_script.specs.declared.edges.Class.TheVariants.{Blank}
use Rattle.replay_script.specs.Edges.{belongs, passed, end_trimmed}

reverse_last : (before : List ℕ) (last : ℕ) → reverse (before ++ last ∷ []) ≡ last ∷ reverse before
reverse_last before last = reverse-append before (last ∷ [])

passed_first : (test : Bool) (c : ℕ) (cs : List ℕ) → belongs Blank c ≡ test → passed Blank (c ∷ cs) ≡ cond test (passed Blank cs) (c ∷ cs)
passed_first test c cs is = ap (λ b. cond b (passed Blank cs) (c ∷ cs)) is

-- a blank at the end goes
pub end_blank : (front before : List ℕ) (last : ℕ) → front ≡ before ++ last ∷ [] → belongs Blank last ≡ true → end_trimmed before ≡ end_trimmed front
end_blank front before last is blank =
    sym (ap end_trimmed is ∙ ap (λ xs. reverse (passed Blank xs)) (reverse_last before last) ∙ ap reverse (passed_first true last (reverse before) blank))

-- a text that ends with another byte stays
pub end_kept : (front before : List ℕ) (last : ℕ) → front ≡ before ++ last ∷ [] → belongs Blank last ≡ false → end_trimmed front ≡ front
end_kept front before last is other =
    ap end_trimmed is ∙ ap (λ xs. reverse (passed Blank xs)) (reverse_last before last) ∙ ap reverse (passed_first false last (reverse before) other)
    ∙ ap reverse (sym (reverse_last before last)) ∙ reverse-reverse (before ++ last ∷ []) ∙ sym is
