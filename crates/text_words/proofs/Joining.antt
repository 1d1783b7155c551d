-- Parts put together again, each behind the byte s, and what a cut gives of that.
use Rattle.std.proofs.Common.{◌≡◌, ℕ, ◌==◌, Bool, true, false, List, [], ◌∷◌, ◌++◌, refl, ap, ◌∙◌, cond, append-nil}
use Rattle.std.proofs.lemmas.Bool.{and_parts, eqb-true}
use Rattle.std.specs.List.{list_all}
use Rattle.text_words.specs.Cuts.{onto, lacks, parts_of}
use Rattle.text_words.proofs.Cutting.{cut-front, cut-alone}

-- each part behind the byte s
abbrev pub behind_each : ℕ → List (List ℕ) → List ℕ
behind_each s [] = []
behind_each s (w ∷ ws) = (s ∷ w) ++ behind_each s ws

-- parts without the byte s, put together and cut again
pub cut_again : (s : ℕ) (w : List ℕ) (ws : List (List ℕ)) → lacks s w ≡ true → list_all (lacks s) ws ≡ true
    → parts_of s (w ++ behind_each s ws) ≡ w ∷ ws
cut_again s w [] clear all = ap (parts_of s) (append-nil w) ∙ cut-alone s w clear
cut_again s w (v ∷ vs) clear all =
    let p = and_parts (lacks s v) (list_all (lacks s) vs) all in
    cut-front s ([] ∷ []) w (v ++ behind_each s vs) clear ∙ ap (λ ws. w ∷ ws) (cut_again s v vs p.0 p.1)

behind_onto : (s c : ℕ) (cs : List ℕ) (ws : List (List ℕ)) → behind_each s ws ≡ s ∷ cs → behind_each s (onto c ws) ≡ s ∷ (c ∷ cs)
behind_onto s c cs [] h = cc
behind_onto s c cs (w ∷ ws) h = cc

together_by : (s c : ℕ) (cs : List ℕ) (b : Bool) → (b ≡ true → c ≡ s) → behind_each s (parts_of s cs) ≡ s ∷ cs
    → behind_each s (cond b ([] ∷ parts_of s cs) (onto c (parts_of s cs))) ≡ s ∷ (c ∷ cs)
together_by s c cs true same rest = rw (same refl) (ap (λ t. s ∷ t) rest)
together_by s c cs false same rest = behind_onto s c cs (parts_of s cs) rest

-- the parts of a text put it together again
pub together : (s : ℕ) (text : List ℕ) → behind_each s (parts_of s text) ≡ s ∷ text
together s [] = refl
together s (c ∷ cs) =
    let rest = together s cs in
    let same : (c == s) ≡ true → c ≡ s = eqb-true c s in
    together_by s c cs (c == s) same rest
