-- Words that are no argument, or are.
use Rattle.std.proofs.Common.{◌≡◌, ◌≤◌, ℕ, true, false, List, [], ◌∷◌, length, map, Option, Some, None, refl, arith}
use Rattle.std.specs.Prelude.{codes, String, string_bytes}
use Rattle.std.specs.declared.alloc.Global.{Global}
use Rattle.std.specs.Str.{bytes_eq}
use Rattle.std.proofs.lemmas.Bool.{cond_both}
use Rattle.command_words.specs.Words.{argument, arguments_of, names_of, with_argument}

-- where a word is an argument there is one
argued : (first : Option (List ℕ)) (more : Option (List (List ℕ))) → names_of (with_argument first more) ≡ None
argued None more = refl
argued (Some w) None = refl
argued (Some w) (Some ws) = refl

two_argued : (w v : List ℕ) (ws : List (List ℕ)) → names_of (arguments_of false (w ∷ v ∷ ws)) ≡ None
two_argued w v ws =
    cond_both (bytes_eq w (codes "--")) (arguments_of true (v ∷ ws)) (with_argument (argument false w) (arguments_of false (v ∷ ws))) (λ o. names_of o ≡ None)
    (λ _. argued (argument true v) (arguments_of true ws)) (λ _. argued (argument false w) (arguments_of false (v ∷ ws)))

pub many_argued : (words : List (String Global)) → 2 ≤ length words → names_of (arguments_of false (map string_bytes words)) ≡ None
many_argued [] many = absurd (omega (arith, many))
many_argued (w ∷ []) many = absurd (omega (arith, many))
many_argued (w ∷ v ∷ ws) many = two_argued (string_bytes w) (string_bytes v) (map string_bytes ws)
