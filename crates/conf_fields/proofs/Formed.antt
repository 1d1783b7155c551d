-- Words that are read are in the form of their kind.
use Rattle.std.proofs.Common.{◌≡◌, ℕ, ◌==◌, Bool, true, false, cond, List, [], ◌∷◌, Option, Some, None, IfSome, refl, subst}
use Rattle.std.proofs.lemmas.Bool.{and_from}
use Rattle.std.proofs.lemmas.Option.{none-some, same_Some, cond_some}
use Rattle.std.specs.List.{list_all}
use Rattle.text_words.specs.Chain.{◌>>=◌}
use Rattle.text_words.specs.Cuts.{parts_of}
use Rattle.text_words.specs.Name.{is_name, is_host, name_of, host_of}
use Rattle.text_words.specs.Path.{all_names_of, names_behind, path_names_of}

pub named : (w : List ℕ) (found : Option (List ℕ)) → name_of w ≡ found → IfSome found (λ n. is_name n ≡ true)
named w None h = tt
named w (Some n) h = let p = cond_some (is_name w) w n h in subst (λ v. is_name v ≡ true) p.1 p.0

pub hosted : (w : List ℕ) (found : Option (List ℕ)) → host_of w ≡ found → IfSome found (λ n. is_host n ≡ true)
hosted w None h = tt
hosted w (Some n) h = let p = cond_some (is_host w) w n h in subst (λ v. is_host v ≡ true) p.1 p.0

all_by : (first : Option (List ℕ)) (rest : Option (List (List ℕ))) (ns : List (List ℕ)) → IfSome first (λ n. is_name n ≡ true)
    → IfSome rest (λ ms. list_all is_name ms ≡ true)
    → (first >>= λ n. rest >>= λ ms. Some (n ∷ ms)) ≡ Some ns → list_all is_name ns ≡ true
all_by None rest ns one more h = absurd (none-some ns h)
all_by (Some n) None ns one more h = absurd (none-some ns h)
all_by (Some n) (Some ms) ns one more h =
    subst (λ all. list_all is_name all ≡ true) (same_Some (n ∷ ms) ns h) (and_from (is_name n) (list_all is_name ms) one more)

all_named : (ws : List (List ℕ)) (found : Option (List (List ℕ))) → all_names_of ws ≡ found → IfSome found (λ ns. list_all is_name ns ≡ true)
all_named ws None h = tt
all_named [] (Some ns) h = subst (λ all. list_all is_name all ≡ true) (same_Some [] ns h) refl
all_named (w ∷ ws) (Some ns) h = all_by (name_of w) (all_names_of ws) ns (named w (name_of w) refl) (all_named ws (all_names_of ws) refl) h

behind_named : (w : List ℕ) (ns : List (List ℕ)) → names_behind w ≡ Some ns → list_all is_name ns ≡ true
behind_named [] ns h = subst (λ all. list_all is_name all ≡ true) (same_Some [] ns h) refl
behind_named (c ∷ cs) ns h = all_named (parts_of 47 (c ∷ cs)) (Some ns) h

path_by : (slash : Bool) (w : List ℕ) (ns : List (List ℕ)) → cond slash (names_behind w) None ≡ Some ns → list_all is_name ns ≡ true
path_by true w ns h = behind_named w ns h
path_by false w ns h = absurd (none-some ns h)

pub paths_named : (w : List ℕ) (found : Option (List (List ℕ))) → path_names_of w ≡ found → IfSome found (λ ns. list_all is_name ns ≡ true)
paths_named w None h = tt
paths_named [] (Some ns) h = absurd (none-some ns h)
paths_named (c ∷ cs) (Some ns) h = path_by (c == 47) cs ns h
