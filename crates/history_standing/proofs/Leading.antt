-- Which paths lead to which.
use Rattle.std.specs.Prelude.{◌≡◌, ℕ, Bool, true, false, ◌&&◌, List, [], ◌∷◌, ◌++◌, ◌⊎◌, refl}
use Rattle.std.specs.Cmp.Lexicographic.{same_text}
use Rattle.std.proofs.Common.{inl, inr, sym, subst, ap, ap₂}
use Rattle.std.proofs.lemmas.Bool.{and_parts}
use Rattle.std.proofs.lemmas.Cmp.{nat_list_eq_equiv}
use Rattle.history_standing.specs.Paths.{same_bytes, leads_to}

pub same_self : (x : List ℕ) → same_bytes x x ≡ true
same_self x = nat_list_eq_equiv.refl x

pub bytes_same : (x y : List ℕ) → same_bytes x y ≡ true → x ≡ y
bytes_same x y same = same_text x y (sym same)

both_true : (a b : Bool) → a ≡ true → b ≡ true → (a && b) ≡ true
both_true a b p q = ap₂ (λ s t. s && t) p q

-- a path leads to each one that goes on from it
pub leads_on : (p more : List (List ℕ)) → leads_to p (p ++ more) ≡ true
leads_on [] more = refl
leads_on (x ∷ p) more = both_true _ _ (same_self x) (leads_on p more)

-- to the last name but one, or it is the whole path
pub leads_shorter : (a b : List (List ℕ)) (x : List ℕ) → leads_to a (b ++ x ∷ []) ≡ true → (leads_to a b ≡ true) ⊎ (a ≡ b ++ x ∷ [])
leads_shorter [] b x leads = inl refl
leads_shorter (y ∷ []) [] x leads = inr (ap (λ z. z ∷ []) (bytes_same y x (and_parts _ _ leads).0))
leads_shorter (y ∷ z ∷ a) [] x leads = absurd (let e : false ≡ true = (and_parts _ _ leads).1 in cc)
leads_shorter (y ∷ a) (z ∷ b) x leads =
    let parts = and_parts _ _ leads in
    elim (leads_shorter a b x parts.1) [ inl is ↦ inl (both_true _ _ parts.0 is) | inr same ↦ inr (ap₂ (λ u v. u ∷ v) (bytes_same y z parts.0) same) ]

-- two paths that agree with their last names agree in front of them
pub front_same : (p q : List (List ℕ)) (x y : List ℕ) → p ++ x ∷ [] ≡ q ++ y ∷ [] → p ≡ q
front_same [] [] x y same = refl
front_same [] (z ∷ []) x y same = absurd (cc)
front_same [] (z ∷ u ∷ q) x y same = absurd (cc)
front_same (z ∷ []) [] x y same = absurd (cc)
front_same (z ∷ u ∷ p) [] x y same = absurd (cc)
front_same (z ∷ p) (u ∷ q) x y same =
    let rest : p ++ x ∷ [] ≡ q ++ y ∷ [] = cc in let head : z ≡ u = cc in ap₂ (λ a b. a ∷ b) head (front_same p q x y rest)

-- a path that leads to one leads where that one leads
pub leads_through : (p q r : List (List ℕ)) → leads_to p q ≡ true → leads_to q r ≡ true → leads_to p r ≡ true
leads_through [] q r one two = refl
leads_through (x ∷ p) [] r one two = absurd (let e : false ≡ true = one in cc)
leads_through (x ∷ p) (y ∷ q) [] one two = absurd (let e : false ≡ true = two in cc)
leads_through (x ∷ p) (y ∷ q) (z ∷ r) one two =
    let a = and_parts _ _ one in
    let b = and_parts _ _ two in
    both_true _ _ (subst (λ u. same_bytes x u ≡ true) (bytes_same y z b.0) a.0) (leads_through p q r a.1 b.1)

pub leads_self : (p : List (List ℕ)) → leads_to p p ≡ true
leads_self [] = refl
leads_self (x ∷ p) = both_true _ _ (same_self x) (leads_self p)
