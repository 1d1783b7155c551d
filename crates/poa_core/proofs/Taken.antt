-- Which calls may arrive, and which fill the run.
use Rattle.std.proofs.Common.{◌≡◌, ℕ, ◌+◌, ◌^◌, ◌<◌, ◌≤◌, Bool, true, false, not, ◌&&◌, ◌||◌, nat_lt, nat_le, List, ◌⊎◌, inl, inr, refl, sym, ap, ◌∙◌}
use Rattle.std.proofs.lemmas.Bool.{ltb-true, ltb-false, leb-true, leb-false, and_parts}
use Rattle.poa_base.specs.declared.Call.{Call}
use Rattle.poa_base.specs.declared.Entry.{Entry}
use Rattle.history_standing.specs.Arrivals.{arrivals, arrived_bytes}
use Rattle.poa_history.specs.Legal.{IsOpen, IsSize, HasRoom, MayArrive, MayFill, is_filled, is_shutdown, had_shutdown}
use Rattle.poa_history.specs.Limits.{has_room, is_taken}

not_true : (b : Bool) → not b ≡ true → b ≡ false
not_true false is = refl
not_true true is = absurd (let e : false ≡ true = is in cc)

room_of : (limit : ℕ) (h : List Entry) (size : ℕ) → has_room limit h size ≡ true → HasRoom limit h size
room_of limit h size is =
    (let a = and_parts (not (is_filled h)) (nat_lt (arrivals h) limit && nat_le (arrived_bytes h + size) (2 ^ 30)) is in
    let b = and_parts (nat_lt (arrivals h) limit) (nat_le (arrived_bytes h + size) (2 ^ 30)) a.1 in
    record { unfilled = not_true (is_filled h) a.0; fewer = ltb-true (arrivals h) limit b.0; bytes = leb-true (arrived_bytes h + size) (2 ^ 30) b.1 })

taken_of : (limit : ℕ) (h : List Entry) (size : ℕ) (call : Call) → is_taken limit h size call ≡ true → ((is_shutdown call ≡ true) × (had_shutdown h ≡ false))
    ⊎ HasRoom limit h size
taken_of limit h size call is =
    elim (is_shutdown call && not (had_shutdown h)) as (λ b. (is_shutdown call && not (had_shutdown h)) ≡ b → (b || has_room limit h size) ≡ true
    → ((is_shutdown call ≡ true) × (had_shutdown h ≡ false)) ⊎ HasRoom limit h size) [
      | true ↦ (λ first _. (let parts = and_parts (is_shutdown call) (not (had_shutdown h)) first in inl (parts.0, not_true (had_shutdown h) parts.1)))
      | false ↦ (λ _ rest. inr (room_of limit h size rest))
    ] refl is

not_taken : (limit : ℕ) (h : List Entry) (size : ℕ) (call : Call) → is_taken limit h size call ≡ false → has_room limit h size ≡ false
not_taken limit h size call is = second (is_shutdown call && not (had_shutdown h)) (has_room limit h size) is
  where
    second : (a b : Bool) → (a || b) ≡ false → b ≡ false
    second false b is = is
    second true b is = absurd (let e : true ≡ false = is in cc)

full_of : (limit : ℕ) (h : List Entry) (size : ℕ) → is_filled h ≡ false → has_room limit h size ≡ false → (limit ≤ arrivals h)
    ⊎ (2 ^ 30 < arrived_bytes h + size)
full_of limit h size unfilled is =
    elim (nat_lt (arrivals h) limit) as (λ b. nat_lt (arrivals h) limit ≡ b → (not (is_filled h) && (b && nat_le (arrived_bytes h + size) (2 ^ 30))) ≡ false
    → (limit ≤ arrivals h) ⊎ (2 ^ 30 < arrived_bytes h + size)) [
      | false ↦ (λ few _. inl (ltb-false (arrivals h) limit few))
      | true ↦
          (λ _ rest. inr
          (leb-false (arrived_bytes h + size) (2 ^ 30) (sym (ap (λ b. not b && (true && nat_le (arrived_bytes h + size) (2 ^ 30))) unfilled) ∙ rest)))
    ] refl is

module _ (limit : ℕ) (h : List Entry) (conn size : ℕ) (call : Call) (open_ : IsOpen h conn) (sized : IsSize size) where
  pub may_arrive : is_taken limit h size call ≡ true → MayArrive limit h conn size call
  may_arrive taken = record { open_ = open_; sized = sized; room = taken_of limit h size call taken }

  pub may_fill : is_filled h ≡ false → is_taken limit h size call ≡ false → MayFill limit h conn size
  may_fill unfilled refused =
      record { open_ = open_; sized = sized; first = unfilled; full = full_of limit h size unfilled (not_taken limit h size call refused) }
