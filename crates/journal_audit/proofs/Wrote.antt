-- The replies that are given, compared with what was written.
use Rattle.std.proofs.Common.{◌≡◌, ℕ, ◌==◌, Bool, true, false, List, [], ◌∷◌, ◌++◌, length, refl, sym, ap, ◌∙◌, subst, append_assoc, append-nil, arith}
use Rattle.std.proofs.lemmas.Bool.{eqb-true}
use Rattle.std.proofs.lemmas.List.{append_cancel_left}
use Rattle.journal_audit.specs.Listening.{IsWhole, MayWrite, Writes, Writing}

-- a reply stands behind those before it
pub stands : (output replies bytes whole rest : List ℕ) → output ≡ replies ++ whole → whole ≡ bytes ++ rest → output ≡ (replies ++ bytes) ++ rest
stands output replies bytes whole rest so_far cut = so_far ∙ (ap (λ (r : List ℕ). replies ++ r) cut ∙ sym (append_assoc replies bytes rest))

-- or it doesn't
pub missing : (output replies bytes whole : List ℕ) → output ≡ replies ++ whole → ((rest : List ℕ) → whole ≡ bytes ++ rest → ⊥) → (more : List ℕ)
    → output ≡ (replies ++ bytes) ++ more → ⊥
missing output replies bytes whole so_far apart more is =
    apart more (append_cancel_left replies whole (bytes ++ more) (sym so_far ∙ (is ∙ append_assoc replies bytes more)))

-- or one before it
pub still_missing : (output replies bytes : List ℕ) → ((more : List ℕ) → output ≡ replies ++ more → ⊥) → (more : List ℕ)
    → output ≡ (replies ++ bytes) ++ more → ⊥
still_missing output replies bytes never more is = never (bytes ++ more) (is ∙ append_assoc replies bytes more)

empty_is : (rest : List ℕ) → (length rest == 0) ≡ true → rest ≡ []
empty_is [] is = refl
empty_is (b ∷ rest) is = (let none : length (b ∷ rest) ≡ 0 = eqb-true (length (b ∷ rest)) 0 is in absurd (omega (arith, none)))

rest_none : (output replies rest : List ℕ) → output ≡ replies ++ rest → output ≡ replies → rest ≡ []
rest_none output replies rest is whole = append_cancel_left replies rest [] (sym is ∙ (whole ∙ sym (append-nil replies)))

-- nothing else was written
pub wholly : (w : Writing) (none : Bool) → w.fits ≡ true → none ≡ (length w.rest == 0) → IsWhole none w
wholly w none fits told output replies writes =
    let is : output ≡ replies ++ w.rest = subst (λ (b : Bool). MayWrite output replies w.rest b) fits writes in (
      (λ holds. is ∙ (ap (λ (r : List ℕ). replies ++ r) (empty_is w.rest (sym told ∙ holds)) ∙ append-nil replies)),
      (λ whole. told ∙ ap (λ (r : List ℕ). length r == 0) (rest_none output replies w.rest is whole)),
    )

pub not_wholly : (w : Writing) (b : Bool) → w.fits ≡ false → b ≡ false → IsWhole b w
not_wholly w b lost told output replies writes =
    let never = subst (λ (x : Bool). MayWrite output replies w.rest x) lost writes in (
      (λ holds. absurd (let e : false ≡ true = sym told ∙ holds in cc)),
      (λ whole. absurd (never [] (whole ∙ sym (append-nil replies)))),
    )

-- a reply that isn't there
pub unwritten : (w : Writing) (output replies bytes : List ℕ) → w.fits ≡ true → ((rest : List ℕ) → w.rest ≡ bytes ++ rest → ⊥) → Writes output replies w
    → (more : List ℕ) → output ≡ (replies ++ bytes) ++ more → ⊥
unwritten w output replies bytes fits apart writes =
    missing output replies bytes w.rest (subst (λ (b : Bool). MayWrite output replies w.rest b) fits writes) apart
