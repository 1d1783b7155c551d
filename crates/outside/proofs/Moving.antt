-- Reads and writes of a link, one after the other.
use Rattle.std.proofs.Common.{◌≡◌, ℕ, List, [], ◌++◌, Option, Some, None, refl, sym, ap, ◌∙◌, subst, arith, append_assoc}
use Rattle.std.proofs.lemmas.List.{append-nil}
use Rattle.outside.specs.Told.{IfTold}
use Rattle.outside.specs.Link.{Shown, Moves}

-- two steps of what is told, and what they come to
pub told_both : {A : Type 0} (P Q R : A → A → Type 0) (x y z : Option A) → ((a b c : A) → P a b → Q b c → R a c) → IfTold x y P → IfTold y z Q → IfTold x z R
told_both P Q R None None None both p q = tt
told_both P Q R None None (Some c) both p q = q
told_both P Q R None (Some b) z both p q = absurd p
told_both P Q R (Some a) None z both p q = absurd p
told_both P Q R (Some a) (Some b) None both p q = q
told_both P Q R (Some a) (Some b) (Some c) both p q = both a b c p q

told_none : (x : Option (List ℕ)) (P : List ℕ → List ℕ → Type 0) → ((a : List ℕ) → P a a) → IfTold x x P
told_none None P same = tt
told_none (Some a) P same = same a

-- nothing is read and written where nothing is done
pub moves_none : (s : Shown) → Moves s s [] []
moves_none s = record {
  read = told_none s.left (λ before after. before ≡ [] ++ after) (λ a. refl);
  written = told_none s.held (λ before after. after ≡ before ++ []) (λ a. sym (append-nil a));
  read_faults = omega arith;
  write_faults = omega arith;
}

-- one thing after another
pub moves_both : (a b c : Shown) (text out more others : List ℕ) → Moves a b text out → Moves b c more others → Moves a c (text ++ more) (out ++ others)
moves_both a b c text out more others first next = record {
  read = told_both (λ x y. x ≡ text ++ y) (λ y z. y ≡ more ++ z) (λ x z. x ≡ (text ++ more) ++ z) a.left b.left c.left
      (λ x y z p q. p ∙ ap (λ (l : List ℕ). text ++ l) q ∙ sym (append_assoc text more z))
      first.read next.read;
  written = told_both (λ x y. y ≡ x ++ out) (λ y z. z ≡ y ++ others) (λ x z. z ≡ x ++ (out ++ others)) a.held b.held c.held
      (λ x y z p q. q ∙ ap (λ (l : List ℕ). l ++ others) p ∙ append_assoc x out others)
      first.written next.written;
  read_faults = omega (arith, first.read_faults, next.read_faults);
  write_faults = omega (arith, first.write_faults, next.write_faults);
}

-- then a write
pub moves_out : (a b c : Shown) (text out others : List ℕ) → Moves a b text out → Moves b c [] others → Moves a c text (out ++ others)
moves_out a b c text out others first next =
    subst (λ (l : List ℕ). Moves a c l (out ++ others)) (append-nil text) (moves_both a b c text out [] others first next)

-- then a read
pub moves_in : (a b c : Shown) (text out more : List ℕ) → Moves a b text out → Moves b c more [] → Moves a c (text ++ more) out
moves_in a b c text out more first next =
    subst (λ (l : List ℕ). Moves a c (text ++ more) l) (append-nil out) (moves_both a b c text out more [] first next)

-- then neither
pub moves_still : (a b c : Shown) (text out : List ℕ) → Moves a b text out → Moves b c [] [] → Moves a c text out
moves_still a b c text out first next =
    subst (λ (l : List ℕ). Moves a c l out) (append-nil text) (moves_in a b c text out [] first next)
