-- How far a delivery has come.
use Rattle.std.proofs.Common.{◌≡◌, ℕ, ◌-◌, List, [], ◌++◌, length, take, drop, Option, true, false, refl, sym, ap, ◌∙◌, subst, append_assoc, append-nil}
use Rattle.std.proofs.lemmas.List.{take-append-drop, take_at, take_rest}
use Rattle.outside.specs.Told.{IfTold}
use Rattle.poad_files.specs.Delivery.{Hands}
use Rattle.poad_files.proofs.Told.{told_then, told_here, told_so}

-- the sink gained a front of the bytes, and the rest follows it
pub record Delivered (held_old held_new : Option (List ℕ)) (bytes rest : List ℕ) : Type 0 where
  pub front : List ℕ
  pub cut : bytes ≡ front ++ rest
  pub gained : IfTold held_old held_new (λ old new. new ≡ old ++ front)

pub delivered_none : (held : Option (List ℕ)) (bytes : List ℕ) → Delivered held held bytes bytes
delivered_none held bytes = record { front = []; cut = refl; gained = told_here held _ (λ old. sym (append-nil old)) }

pub delivered_more : (a b c : Option (List ℕ)) (bytes rest : List ℕ) (n : ℕ) → Delivered a b bytes rest → IfTold b c (λ old new. new ≡ old ++ take n rest)
    → Delivered a c bytes (drop n rest)
delivered_more a b c bytes rest n d more = record {
  front = d.front ++ take n rest;
  cut = d.cut ∙ (ap (λ (back : List ℕ). d.front ++ back) (sym (take-append-drop n rest)) ∙ sym (append_assoc d.front (take n rest) (drop n rest)));
  gained = told_then a b c _ _ _ (λ x y z p q. q ∙ (ap (λ (old : List ℕ). old ++ take n rest) p ∙ append_assoc x d.front (take n rest))) d.gained more;
}

pub delivered_all : (a b : Option (List ℕ)) (bytes rest : List ℕ) → Delivered a b bytes rest → rest ≡ [] → IfTold a b (Hands true bytes)
delivered_all a b bytes rest d none =
    told_so a b _ _ (λ x y p. p ∙ ap (λ (front : List ℕ). x ++ front) (sym (d.cut ∙ (ap (λ (back : List ℕ). d.front ++ back) none ∙ append-nil d.front))))
    d.gained

pub delivered_part : (a b c : Option (List ℕ)) (bytes rest : List ℕ) → Delivered a b bytes rest → IfTold b c (λ old new. new ≡ old)
    → IfTold a c (Hands false bytes)
delivered_part a b c bytes rest d same =
    told_then a b c _ _ _
    (λ x y z p q. (length d.front, q ∙ (p ∙ ap (λ (front : List ℕ). x ++ front) (sym (ap (take (length d.front)) d.cut ∙ take_at d.front rest _ refl)))))
    d.gained same

-- the same, where the code cuts the rest
pub delivered_on : (a b c : Option (List ℕ)) (bytes rest : List ℕ) (n : ℕ) → Delivered a b bytes rest → IfTold b c (λ old new. new ≡ old ++ take n rest)
    → Delivered a c bytes (take (length rest - n) (drop n rest))
delivered_on a b c bytes rest n d more = subst (Delivered a c bytes) (sym (take_rest rest n)) (delivered_more a b c bytes rest n d more)
