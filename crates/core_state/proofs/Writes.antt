-- What a write leaves of the servants.
use Rattle.std.specs.Prelude.{◌≡◌, ℕ, ◌<◌, ◌≤◌, ◌==◌, if◌then◌else◌, List, length, Option, unwrap_or, slice_get, slice_set, slice_index_or, Result, IfOk, OnOk, OnErr, Ok, Err, refl}
use Rattle.std.proofs.Common.{sym, subst, ap, ◌∙◌}
use Rattle.std.proofs.lemmas.Bool.{cond_both, eqb-true, eqb-false}
use Rattle.std.proofs.lemmas.List.{get_or-set_other, get_or-set_same}
use Rattle.std.proofs.lemmas.Option.{slice_get_read, slice_get_past, unwrap_or-slice_get}
use Rattle.std.proofs.lemmas.Result.{IfOk-weaker}
use Rattle.std.specs.BTreeMap.{is_at}
use Rattle.std.specs.Map.{lookup}
use Rattle.std.specs.Ordering.{nat_cmp}
use Rattle.poa_base.specs.declared.Call.{Call}
use Rattle.poa_base.specs.declared.Config.{Config}
use Rattle.poa_base.specs.declared.Entry.{Entry}
use Rattle.poa_base.specs.declared.Outcome.{Outcome}
use Rattle.poa_base.specs.declared.State.{State}
use Rattle.poa_base.specs.declared.State.TheVariants.{Fault}
use Rattle.poa_base.specs.Store as slots
use Rattle.poa_base.specs.Store.{IsReserved, with_room}
use Rattle.poa_base.proofs.Stored.{stored-with_room, reserved-insert}
use Rattle.poa_history.specs.States.{Stored, acted}
use Rattle.core_state.specs.Holds.{ServantsAgree}
use Rattle.core_state.specs.Kept.{Kept}
use Rattle.core_state.specs.Steps.{IsUnchanged}

-- the state of the configured servant of a number
abbrev pub state_at : List State → ℕ → State
state_at xs k = unwrap_or (slice_get xs k) Fault

-- the other places keep what they had
written_at : (xs : List State) (i k : ℕ) (y : State) → i < length xs → state_at (slice_set xs i y) k ≡ (if k == i then y else state_at xs k)
written_at xs i k y low =
    unwrap_or-slice_get (slice_set xs i y) k Fault
    ∙ cond_both (k == i) y (state_at xs k) (λ x. slice_index_or (slice_set xs i y) k Fault ≡ x)
    (λ same. ap (λ n. slice_index_or (slice_set xs i y) n Fault) (eqb-true k i same) ∙ get_or-set_same xs i y Fault low)
    (λ other. get_or-set_other xs i k y Fault (eqb-false k i other) ∙ sym (unwrap_or-slice_get xs k Fault))

-- the servant at the place acted
pub acted_write : (xs : List State) (i : ℕ) (old new : State) (call : Option Call) (outcome : Outcome) → i < length xs → old ≡ slice_index_or xs i old
    → acted old call ≡ (new, outcome) →
    ((k : ℕ) → state_at (slice_set xs i new) k ≡ (if k == i then (acted (state_at xs k) call).0 else state_at xs k))
    × (outcome ≡ (acted (state_at xs i) call).1)
acted_write xs i old new call outcome low is activations = (written, sym (ap (λ x. x.1) activations) ∙ ap (λ s. (acted s call).1) (sym had))
  where
    had : state_at xs i ≡ old
    had = ap (λ o. unwrap_or o Fault) (slice_get_read xs (length xs) i old refl low is)

    written : (k : ℕ) → state_at (slice_set xs i new) k ≡ (if k == i then (acted (state_at xs k) call).0 else state_at xs k)
    written k =
        written_at xs i k new low
        ∙ cond_both (k == i) (acted (state_at xs k) call).0 (state_at xs k) (λ x. (if k == i then new else state_at xs k) ≡ x)
        (λ same. ap (λ b. if b then new else state_at xs k) same
        ∙ sym (ap (λ s. (acted s call).0) (ap (state_at xs) (eqb-true k i same) ∙ had) ∙ ap (λ x. x.0) activations))
        (λ other. ap (λ b. if b then new else state_at xs k) other)

-- past the configured ones there is a servant that only fails
pub acted_past : (xs : List State) (i : ℕ) (call : Option Call) (outcome : Outcome) → length xs ≤ i → acted Fault call ≡ (Fault, outcome) →
    ((k : ℕ) → state_at xs k ≡ (if k == i then (acted (state_at xs k) call).0 else state_at xs k)) × (outcome ≡ (acted (state_at xs i) call).1)
acted_past xs i call outcome high activations = (same_at, sym (ap (λ x. x.1) activations) ∙ ap (λ s. (acted s call).1) (sym none))
  where
    none : state_at xs i ≡ Fault
    none = ap (λ o. unwrap_or o Fault) (slice_get_past xs i high)

    same_at : (k : ℕ) → state_at xs k ≡ (if k == i then (acted (state_at xs k) call).0 else state_at xs k)
    same_at k =
        cond_both (k == i) (acted (state_at xs k) call).0 (state_at xs k) (λ x. state_at xs k ≡ x)
        (λ same.
        (let here : state_at xs k ≡ Fault = ap (state_at xs) (eqb-true k i same) ∙ none in here
        ∙ sym (ap (λ s. (acted s call).0) here ∙ ap (λ x. x.0) activations)))
        (λ _. refl)

module _ {E : Type 0} (r : Result Outcome E) where
  pub write_activations : (xs : List State) (i : ℕ) (old new : State) (call : Option Call) → i < length xs → old ≡ slice_index_or xs i old
      → IfOk r (λ outcome. acted old call ≡ (new, outcome)) →
      OnOk r ((k : ℕ) → state_at (slice_set xs i new) k ≡ (if k == i then (acted (state_at xs k) call).0 else state_at xs k))
  write_activations xs i old new call low is =
      IfOk-weaker r (λ outcome. acted old call ≡ (new, outcome))
      (λ _. (k : ℕ) → state_at (slice_set xs i new) k ≡ (if k == i then (acted (state_at xs k) call).0 else state_at xs k))
      (λ outcome activations. (acted_write xs i old new call outcome low is activations).0)

  pub write_tells : (xs : List State) (i : ℕ) (old new : State) (call : Option Call) → i < length xs → old ≡ slice_index_or xs i old
      → IfOk r (λ outcome. acted old call ≡ (new, outcome)) → IfOk r (λ outcome. outcome ≡ (acted (state_at xs i) call).1)
  write_tells xs i old new call low is =
      IfOk-weaker r (λ outcome. acted old call ≡ (new, outcome)) (λ outcome. outcome ≡ (acted (state_at xs i) call).1)
      (λ outcome activations. (acted_write xs i old new call outcome low is activations).1)

  pub past_acts : (xs : List State) (i : ℕ) (call : Option Call) → length xs ≤ i → IfOk r (λ outcome. acted Fault call ≡ (Fault, outcome)) →
      OnOk r ((k : ℕ) → state_at xs k ≡ (if k == i then (acted (state_at xs k) call).0 else state_at xs k))
  past_acts xs i call high =
      IfOk-weaker r (λ outcome. acted Fault call ≡ (Fault, outcome))
      (λ _. (k : ℕ) → state_at xs k ≡ (if k == i then (acted (state_at xs k) call).0 else state_at xs k))
      (λ outcome activations. (acted_past xs i call outcome high activations).0)

  pub past_tells : (xs : List State) (i : ℕ) (call : Option Call) → length xs ≤ i → IfOk r (λ outcome. acted Fault call ≡ (Fault, outcome))
      → IfOk r (λ outcome. outcome ≡ (acted (state_at xs i) call).1)
  past_tells xs i call high =
      IfOk-weaker r (λ outcome. acted Fault call ≡ (Fault, outcome)) (λ outcome. outcome ≡ (acted (state_at xs i) call).1)
      (λ outcome activations. (acted_past xs i call outcome high activations).1)

-- where only room was made, the states are as they were
pub room_unchanged : (old new : Kept) (p : List (List ℕ)) (oid : List ℕ) → new.configured ≡ old.configured → new.fresh ≡ old.fresh
    → new.store ≡ with_room old.store p oid → IsUnchanged old new
room_unchanged old new p oid configured fresh store = record {
  configured = configured;
  fresh = fresh;
  stored = λ q j. ap (λ x. slots.stored x q j) store ∙ stored-with_room old.store p oid q j;
  room = λ q j there. subst (λ x. IsReserved x q j) (sym store) (reserved-insert old.store p oid (slots.stored old.store p oid) q j there);
}

pub at_error : {T E P : Type 0} (r : Result T E) → P → OnErr r P
at_error (Ok x) is = tt
at_error (Err e) is = is

pub unchanged_holds : (c : Config) (run : ℕ) (opened : Stored) (past : List Entry) (old new : Kept) → IsUnchanged old new → ServantsAgree c run opened past old
    → ServantsAgree c run opened past new
unchanged_holds c run opened past old new same holds = record {
  configured = λ k. ap (λ xs. state_at xs k) same.configured ∙ holds.configured k;
  fresh = λ n. ap (lookup (is_at (nat_cmp n))) same.fresh ∙ holds.fresh n;
  room = λ a there keeps. same.room a.path a.oid (holds.room a there keeps);
  stored = λ p oid. same.stored p oid ∙ holds.stored p oid;
}
