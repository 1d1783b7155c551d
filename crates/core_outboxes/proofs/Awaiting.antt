-- How many calls await a reply.
use Rattle.std.proofs.Common.{◌≡◌, ℕ, ◌+◌, ◌<◌, ◌==◌, suc, Bool, true, false, not, List, [], ◌∷◌, filter, length, map, cond, if◌then◌else◌, Option, refl, ap, ◌∙◌, arith}
use Rattle.std.proofs.lemmas.Bool.{cond_both, eq-eqb}
use Rattle.core_outboxes.specs.declared.owing.Owing.{Owing}
use Rattle.core_outboxes.specs.declared.wait.Wait.{Wait}
use Rattle.core_outboxes.specs.Desk.{set_wait}

-- those that pass a test are some of those that pass another, and some of those that don't
pub counted_apart : {A : Type 0} (now p : A → Bool) (xs : List A)
    → length (filter p xs) ≡ length (filter p (filter now xs)) + length (filter p (filter (λ x. not (now x)) xs))
counted_apart now p [] = refl
counted_apart {A} now p (x ∷ xs) =
    let ps : List A = filter p xs in
    let ns : List A = filter now xs in
    let ms : List A = filter (λ y. not (now y)) xs in
    let rest : length ps ≡ length (filter p ns) + length (filter p ms) = counted_apart now p xs in
    elim (now x) as (λ b. length (cond (p x) (x ∷ ps) ps) ≡ length (filter p (cond b (x ∷ ns) ns)) + length (filter p (cond (not b) (x ∷ ms) ms))) [
      | true ↦ elim (p x) as (λ b. length (cond b (x ∷ ps) ps) ≡ length (cond b (x ∷ filter p ns) (filter p ns)) + length (filter p ms))
          [ true ↦ more (length ps) (length (filter p ns)) (length (filter p ms)) rest | false ↦ rest ]
      | false ↦ elim (p x) as (λ b. length (cond b (x ∷ ps) ps) ≡ length (filter p ns) + length (cond b (x ∷ filter p ms) (filter p ms)))
          [ true ↦ further (length ps) (length (filter p ns)) (length (filter p ms)) rest | false ↦ rest ]
    ]
  where
    more : (a b d : ℕ) → a ≡ b + d → suc a ≡ suc b + d
    more a b d is = omega (arith, is)

    further : (a b d : ℕ) → a ≡ b + d → suc a ≡ b + suc d
    further a b d is = omega (arith, is)

-- one row is taken out, so one call less of its connection awaits a reply
pub one_apart : (now : Owing → Bool) (os : List Owing) (row : Owing) → filter now os ≡ row ∷ [] → (n : ℕ)
    → length (filter (λ o. o.conn == n) os) ≡ (if row.conn == n then 1 else 0) + length (filter (λ o. o.conn == n) (filter (λ o. not (now o)) os))
one_apart now os row one n =
    counted_apart now (λ o. o.conn == n) os
    ∙ ap (λ rows. length (filter (λ o. o.conn == n) rows) + length (filter (λ o. o.conn == n) (filter (λ o. not (now o)) os))) one
    ∙ ap (λ k. k + length (filter (λ o. o.conn == n) (filter (λ o. not (now o)) os))) (single (row.conn == n))
  where
    single : (b : Bool) → length (cond b (row ∷ []) []) ≡ (if b then 1 else 0)
    single true = refl
    single false = refl

-- the call of a row awaits one
pub some_await : (now : Owing → Bool) (os : List Owing) (row : Owing) (awaited : ℕ) → filter now os ≡ row ∷ []
    → awaited ≡ length (filter (λ o. o.conn == row.conn) os) → 0 < awaited
some_await now os row awaited one is =
    let parts = one_apart now os row one row.conn in
    let one_of : Bool → ℕ = λ b. if b then 1 else 0 in
    let own : one_of (row.conn == row.conn) ≡ 1 = ap one_of (eq-eqb row.conn row.conn refl) in
    omega (arith, is, parts, own)

pub less_one : (k new old left all : ℕ) → k + new ≡ old → old ≡ all → all ≡ k + left → new ≡ left
less_one k new old left all a b c = omega (arith, a, b, c)

-- what a row waits for is no matter
pub waits_apart : (r : ℕ) (wait : Option Wait) (os : List Owing) (n : ℕ)
    → length (filter (λ o. o.conn == n) (map (set_wait r wait) os)) ≡ length (filter (λ o. o.conn == n) os)
waits_apart r wait [] n = refl
waits_apart r wait (o ∷ os) n =
    ap (λ b. length (cond b (set_wait r wait o ∷ filter (λ x. x.conn == n) (map (set_wait r wait) os)) (filter (λ x. x.conn == n) (map (set_wait r wait) os))))
    (cond_both (o.arrival == r) (record o { wait = wait }) o (λ p. (p.conn == n) ≡ (o.conn == n)) (λ _. refl) (λ _. refl))
    ∙ elim (o.conn == n) as (λ b. length (cond b (set_wait r wait o ∷ filter (λ x. x.conn == n) (map (set_wait r wait) os))
    (filter (λ x. x.conn == n) (map (set_wait r wait) os))) ≡ length (cond b (o ∷ filter (λ x. x.conn == n) os) (filter (λ x. x.conn == n) os)))
    [ true ↦ ap suc (waits_apart r wait os n) | false ↦ waits_apart r wait os n ]
