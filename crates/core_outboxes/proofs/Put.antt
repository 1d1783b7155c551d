-- One outbox is put in place of another.
use Rattle.std.proofs.Common.{◌≡◌, ℕ, ◌+◌, ◌<◌, zero, suc, ◌==◌, true, false, List, [], ◌∷◌, ◌++◌, length, cond, Some, None, slice_get, slice_set, if◌then◌else◌, refl, sym, ap, ◌∙◌, arith, get_or}
use Rattle.std.proofs.lemmas.Bool.{cond_both, eqb-true, eq-eqb, true≢false}
use Rattle.std.proofs.lemmas.List.{append-nil}
use Rattle.std.proofs.lemmas.Option.{slice_get-get_or}
use Rattle.core_outboxes.specs.declared.filed.Filed.{Filed}
use Rattle.core_outboxes.specs.declared.outbox.Outbox.{Outbox}
use Rattle.core_outboxes.specs.Outboxes.{awaited_at, replies_at}

put_same : {A : Type 0} (xs : List A) (k : ℕ) (y : A) → k < length xs → slice_get (slice_set xs k y) k ≡ Some y
put_same [] k y below = absurd (omega (arith, below))
put_same (x ∷ xs) zero y below = refl
put_same (x ∷ xs) (suc k) y below = put_same xs k y (omega (arith, below))

put_other : {A : Type 0} (xs : List A) (k n : ℕ) (y : A) → (n ≡ k → ⊥) → slice_get (slice_set xs k y) n ≡ slice_get xs n
put_other [] k n y apart = refl
put_other (x ∷ xs) zero zero y apart = absurd (apart refl)
put_other (x ∷ xs) zero (suc n) y apart = refl
put_other (x ∷ xs) (suc k) zero y apart = refl
put_other (x ∷ xs) (suc k) (suc n) y apart = put_other xs k n y (λ same. apart (ap suc same))

put_at : {A : Type 0} (xs : List A) (k n : ℕ) (y : A) → k < length xs → slice_get (slice_set xs k y) n ≡ cond (k == n) (Some y) (slice_get xs n)
put_at xs k n y below =
    cond_both (k == n) (Some y) (slice_get xs n) (λ o. slice_get (slice_set xs k y) n ≡ o)
    (λ same. ap (slice_get (slice_set xs k y)) (sym (eqb-true k n same)) ∙ put_same xs k y below)
    (λ other. put_other xs k n y (λ same. true≢false (sym (eq-eqb k n (sym same)) ∙ other)))

-- one reply more
pub filed_at : (boxes : List Outbox) (k : ℕ) (old new : Outbox) (f : Filed) → k < length boxes → old ≡ get_or boxes k old
    → new.replies.items ≡ old.replies.items ++ f ∷ []
    → (n : ℕ) → replies_at (slice_set boxes k new) n ≡ replies_at boxes n ++ (if k == n then f ∷ [] else [])
filed_at boxes k old new f below is more n =
    ap (λ o. elim o [ Some box ↦ box.replies.items | None ↦ [] ]) (put_at boxes k n new below)
    ∙ elim (k == n) as (λ b. (k == n) ≡ b → (elim (cond b (Some new) (slice_get boxes n)) [ Some box ↦ box.replies.items | None ↦ [] ])
    ≡ replies_at boxes n ++ (if b then f ∷ [] else [])) [
      | true ↦ (λ same. more ∙ ap (λ o. elim o [ Some box ↦ box.replies.items | None ↦ [] ] ++ f ∷ [])
          (ap (λ b. Some b) is ∙ sym (slice_get-get_or boxes k old below) ∙ ap (slice_get boxes) (eqb-true k n same)))
      | false ↦ (λ _. sym (append-nil (replies_at boxes n)))
    ] refl

-- one call less awaits its reply
pub awaited_less : (boxes : List Outbox) (k : ℕ) (old new : Outbox) → k < length boxes → old ≡ get_or boxes k old → new.awaited + 1 ≡ old.awaited
    → (n : ℕ) → (if k == n then 1 else 0) + awaited_at (slice_set boxes k new) n ≡ awaited_at boxes n
awaited_less boxes k old new below is less n =
    ap (λ o. (if k == n then 1 else 0) + (elim o [ Some box ↦ box.awaited | None ↦ 0 ])) (put_at boxes k n new below)
    ∙ elim (k == n) as (λ b. (k == n) ≡ b → (if b then 1 else 0) + (elim (cond b (Some new) (slice_get boxes n)) [ Some box ↦ box.awaited | None ↦ 0 ])
    ≡ awaited_at boxes n) [
      | true ↦ (λ same. one new.awaited old.awaited less ∙ ap (λ o. elim o [ Some box ↦ box.awaited | None ↦ 0 ])
          (ap (λ b. Some b) is ∙ sym (slice_get-get_or boxes k old below) ∙ ap (slice_get boxes) (eqb-true k n same)))
      | false ↦ (λ _. none (awaited_at boxes n))
    ] refl
  where
    none : (a : ℕ) → 0 + a ≡ a
    none a = omega arith

    one : (a b : ℕ) → a + 1 ≡ b → 1 + a ≡ b
    one a b is = omega (arith, is)

-- where a call awaits a reply there is an outbox
pub is_there : (boxes : List Outbox) (k : ℕ) → 0 < awaited_at boxes k → k < length boxes
is_there [] k some = absurd (omega (arith, some))
is_there (x ∷ xs) zero some = omega arith
is_there (x ∷ xs) (suc k) some = (let below = is_there xs k some in omega (arith, below))

-- an outbox that is new holds nothing
pub new_behind : (boxes : List Outbox) (box : Outbox) → box.replies.items ≡ [] → box.awaited ≡ 0
    → (n : ℕ) → (replies_at (boxes ++ box ∷ []) n ≡ replies_at boxes n) × (awaited_at (boxes ++ box ∷ []) n ≡ awaited_at boxes n)
new_behind [] box none zero_ zero = (none, zero_)
new_behind [] box none zero_ (suc n) = (refl, refl)
new_behind (x ∷ xs) box none zero_ zero = (refl, refl)
new_behind (x ∷ xs) box none zero_ (suc n) = new_behind xs box none zero_ n
