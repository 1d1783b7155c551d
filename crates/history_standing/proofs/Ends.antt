-- Two paths are the same where their last names are, and what is in front of them.
use Rattle.std.specs.Prelude.{◌≡◌, ℕ, ◌≤◌, ◌-◌, suc, true, false, List, [], ◌∷◌, ◌++◌, length, take, refl}
use Rattle.std.proofs.Common.{sym, ap, ◌∙◌, get_or, arith}
use Rattle.std.proofs.Math.Seq.{take-suc, take-length}
use Rattle.std.proofs.lemmas.Bool.{false_from_ne_true, true≢false}
use Rattle.history_standing.specs.Paths.{same_bytes, same_path}
use Rattle.history_standing.proofs.Finding.{path_same, same_path_self}
use Rattle.history_standing.proofs.Leading.{bytes_same, front_same, same_self}

last_same : (p q : List (List ℕ)) (x y : List ℕ) → p ++ x ∷ [] ≡ q ++ y ∷ [] → x ≡ y
last_same [] [] x y same = cc
last_same [] (z ∷ []) x y same = absurd (cc)
last_same [] (z ∷ u ∷ q) x y same = absurd (cc)
last_same (z ∷ []) [] x y same = absurd (cc)
last_same (z ∷ u ∷ p) [] x y same = absurd (cc)
last_same (z ∷ p) (u ∷ q) x y same = let rest : p ++ x ∷ [] ≡ q ++ y ∷ [] = cc in last_same p q x y rest

fronts_tell : (p q : List (List ℕ)) (x : List ℕ) → same_path p q ≡ same_path (p ++ x ∷ []) (q ++ x ∷ [])
fronts_tell p q x =
    elim (same_path p q) as (λ b. same_path p q ≡ b → b ≡ same_path (p ++ x ∷ []) (q ++ x ∷ [])) [
      | true ↦ λ is. sym (ap (λ r. same_path (p ++ x ∷ []) (r ++ x ∷ [])) (sym (path_same p q is)) ∙ same_path_self (p ++ x ∷ []))
      | false ↦ λ no. sym (false_from_ne_true (same_path (p ++ x ∷ []) (q ++ x ∷ [])) (λ is. true≢false
          (sym (same_path_self p) ∙ ap (same_path p) (front_same p q x x (path_same (p ++ x ∷ []) (q ++ x ∷ []) is)) ∙ no)))
    ] refl

-- a path of one name at least is its front and its last name
split_last : (path : List (List ℕ)) (last : List ℕ) → 1 ≤ length path → last ≡ get_or path (length path - 1) last
    → take (length path - 1) path ++ last ∷ [] ≡ path
split_last path last some is =
    let all : suc (length path - 1) ≡ length path = omega (arith, some) in
    ap (λ x. take (length path - 1) path ++ x ∷ []) is
    ∙ sym (take-suc path (length path - 1) last (omega (arith, some)))
    ∙ ap (λ n. take n path) all
    ∙ take-length path

module _ (path parent : List (List ℕ)) (last name : List ℕ) (some : 1 ≤ length path) (is : last ≡ get_or path (length path - 1) last) where
  -- where the last names are the same, the rest tells
  pub rest_tells : same_bytes last name ≡ true → same_path (take (length path - 1) path) parent ≡ same_path path (parent ++ name ∷ [])
  rest_tells same =
      fronts_tell (take (length path - 1) path) parent name
      ∙ ap (λ x. same_path (take (length path - 1) path ++ x ∷ []) (parent ++ name ∷ [])) (sym (bytes_same last name same))
      ∙ ap (λ p. same_path p (parent ++ name ∷ [])) (split_last path last some is)

  -- where they differ, the paths do
  pub lasts_tell : same_bytes last name ≡ false → same_path path (parent ++ name ∷ []) ≡ false
  lasts_tell apart =
      false_from_ne_true (same_path path (parent ++ name ∷ [])) (λ same. true≢false
      (sym (same_self last) ∙ ap (same_bytes last) (last_same (take (length path - 1) path) parent last name
      (split_last path last some is ∙ path_same path (parent ++ name ∷ []) same)) ∙ apart))
