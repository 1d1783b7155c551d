-- A word that is read as a path is the path's text.
use Rattle.std.proofs.Common.{◌≡◌, ℕ, ◌==◌, Bool, true, false, List, [], ◌∷◌, Option, Some, None, Result, Ok, Err, IfOk, refl, ap, sym, ◌∙◌, cond}
use Rattle.std.proofs.lemmas.Bool.{eqb-true}
use Rattle.std.proofs.lemmas.Option.{none-some, same_Some, cond_some}
use Rattle.text_words.specs.Name.{is_name, name_of}
use Rattle.text_words.specs.Cuts.{parts_of}
use Rattle.text_words.specs.Chain.{◌>>=◌}
use Rattle.text_words.specs.Path.{below_root, path_text, all_names_of, names_behind, path_names_of}
use Rattle.text_words.specs.declared.fault.WordFault.{WordFault}
use Rattle.text_words.specs.WordGives.{WordGives}
use Rattle.text_words.proofs.Joining.{behind_each, together}
use Rattle.text_words.proofs.ReadBack.{below_root_each}

names_same_by : (w : List ℕ) (ws ns : List (List ℕ)) (first : Option (List ℕ)) (rest : Option (List (List ℕ)))
    → ((n : List ℕ) → first ≡ Some n → n ≡ w) → ((ms : List (List ℕ)) → rest ≡ Some ms → ms ≡ ws)
    → (first >>= λ n. rest >>= λ ms. Some (n ∷ ms)) ≡ Some ns → ns ≡ w ∷ ws
names_same_by w ws ns None rest one more h = absurd (none-some ns h)
names_same_by w ws ns (Some n) None one more h = absurd (none-some ns h)
names_same_by w ws ns (Some n) (Some ms) one more h = rw (← same_Some (n ∷ ms) ns h, one n refl, more ms refl) refl

-- names that are read are the words themselves
names_same : (ws ns : List (List ℕ)) → all_names_of ws ≡ Some ns → ns ≡ ws
names_same [] ns h = sym (same_Some [] ns h)
names_same (w ∷ ws) ns h =
    names_same_by w ws ns (name_of w) (all_names_of ws) (λ n e. sym (cond_some (is_name w) w n e).1) (λ ms e. names_same ws ms e) h

path_text_below : (names : List (List ℕ)) (c : ℕ) (cs : List ℕ) → below_root names ≡ c ∷ cs → path_text names ≡ c ∷ cs
path_text_below [] c cs h = cc
path_text_below (n ∷ ns) c cs h = h

names_spelled : (rest : List ℕ) (ns : List (List ℕ)) → names_behind rest ≡ Some ns → 47 ∷ rest ≡ path_text ns
names_spelled [] ns h = ap path_text (same_Some [] ns h)
names_spelled (c ∷ cs) ns h =
    let same : ns ≡ parts_of 47 (c ∷ cs) = names_same (parts_of 47 (c ∷ cs)) ns h in
    sym (path_text_below ns 47 (c ∷ cs) (below_root_each ns ∙ ap (behind_each 47) same ∙ together 47 (c ∷ cs)))

path_spelled_by : (c : ℕ) (cs : List ℕ) (ns : List (List ℕ)) (slash : Bool) → (slash ≡ true → c ≡ 47)
    → cond slash (names_behind cs) None ≡ Some ns → c ∷ cs ≡ path_text ns
path_spelled_by c cs ns true at h = rw (at refl) (names_spelled cs ns h)
path_spelled_by c cs ns false at h = absurd (none-some ns h)

names_path_spelled : (w : List ℕ) (ns : List (List ℕ)) → path_names_of w ≡ Some ns → w ≡ path_text ns
names_path_spelled [] ns h = absurd (none-some ns h)
names_path_spelled (c ∷ cs) ns h = path_spelled_by c cs ns (c == 47) (eqb-true c 47) h

-- the same of what a reader of paths answers
pub path_given : (w : List ℕ) (r : Result (List (List ℕ)) WordFault) → WordGives r (path_names_of w) → IfOk r (λ ns. w ≡ path_text ns)
path_given w (Ok ns) h = names_path_spelled w ns h
path_given w (Err e) h = tt
