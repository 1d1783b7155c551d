-- What the rows know after an entry.
use Rattle.std.specs.Prelude.{◌≡◌, ◌==◌, ℕ, suc, ◌<◌, ◌≤◌, Bool, true, false, ◌&&◌, ◌||◌, if◌then◌else◌, List, [], ◌∷◌, map, Option, Some, None, is_none, ◌⊎◌, refl}
use Rattle.std.proofs.Common.{inl, inr, sym, subst, ap, ap₂, ◌∙◌, arith}
use Rattle.std.proofs.lemmas.Bool.{cond_both, cases_Bool, cases_eq, and_parts, and_from, or_cases, or_left, or_right, true≢false, false≢true, eqb-true, eq-eqb}
use Rattle.poa_base.specs.declared.Config.{Config}
use Rattle.poa_base.specs.declared.Attempt.TheVariants.{Yes, No, Raised, Dying}
use Rattle.poa_base.specs.declared.Entry.{Entry}
use Rattle.poa_base.specs.declared.Entry.TheVariants.{Entered, Arrive, Filled, Left, Collect, Admit, Tried, Incarnated, Run, Done, TakeOut, Etherealized, Abandon}
use Rattle.poa_history.specs.Alone.{IsGivenAlone}
use Rattle.history_standing.specs.Arrivals.{arrivals, call_of, is_message}
use Rattle.poa_history.specs.Bounds.{IsWithinLimits}
use Rattle.poa_history.specs.Legal.{IsLegal}
use Rattle.history_standing.specs.Situations.{facts_of}
use Rattle.poa_history.specs.Sound.{IsGiven}
use Rattle.history_standing.specs.Stages.{stage, arrival_in, is_at, admitted, is_unadmitted}
use Rattle.history_standing.specs.Trees.{In}
use Rattle.history_standing.proofs.Members.{in_image}
use Rattle.held_queue.specs.Blocks.{Blocks, TakesTurn}
use Rattle.held_queue.specs.Frees.{freed_by, frees}
use Rattle.held_queue.specs.declared.freed.Freed.{Freed}
use Rattle.held_queue.specs.declared.hold.Hold.{Hold}
use Rattle.held_queue.specs.declared.hold.Hold.TheVariants.{Manager, Trial, Turn as HeldTurn, Main, Id, Change}
use Rattle.held_queue.proofs.Stays.{still_blocked, turn_stays}
use Rattle.held_queue.specs.Held.{IsGripped, IsRow, RowsAgree}
use Rattle.held_queue.specs.Numbers.{Heap, has}
use Rattle.held_queue.specs.Rows.{let_go, freed_grip, freed_row, in_rows}
use Rattle.poa_history.specs.Waiting.{is_waiting, received}
use Rattle.held_queue.specs.declared.grip.Grip.{Grip}
use Rattle.held_queue.specs.declared.grip.Grip.TheVariants.{Held, Turn, Loose}
use Rattle.held_queue.specs.declared.row.Row.{Row}
use Rattle.history_standing.proofs.CallsKept.{arrivals_kept, call_kept}

-- what waits after an entry waited before, or came with it
abbrev Waited : List Entry → Entry → ℕ → Type 0
Waited past e r = ((r < arrivals past) × (is_waiting past r ≡ true)) ⊎ (received past e ≡ Some r)

waited : (e : Entry) (past : List Entry) (r : ℕ) → r < arrivals (e ∷ past) → is_waiting (e ∷ past) r ≡ true → Waited past e r
waited (Arrive conn size call) past r less waits =
    let parts = and_parts (is_unadmitted past r) (is_message (call_of (Arrive conn size call ∷ past) r)) waits in
    elim (cases_eq r (arrivals past)) [
      | inl same ↦
          inr (ap (λ b. if b then Some (arrivals past) else None)
          (ap (λ b. is_message (if b then Some call else call_of past r)) (sym (eq-eqb r (arrivals past) same)) ∙ parts.1) ∙ ap (λ x. Some x) (sym same))
      | inr other ↦ (let low : r < arrivals past = below less other in
          inl (
            low,
            and_from (is_unadmitted past r) (is_message (call_of past r)) parts.0
                (ap is_message (sym (call_kept (Arrive conn size call) past r low)) ∙ parts.1),
          ))
    ]
  where
    below : r < suc (arrivals past) → (r ≡ arrivals past → ⊥) → r < arrivals past
    below less' other = omega (arith, less', other)
waited (Admit w q v) past r less waits =
    let parts = and_parts (is_unadmitted (Admit w q v ∷ past) r) (is_message (call_of past r)) waits in
    inl (
      less,
      and_from (is_unadmitted past r) (is_message (call_of past r))
          (cond_both (q == r) (Some v) (admitted past r) (λ o. is_none o ≡ true → is_none (admitted past r) ≡ true) (λ _ none. absurd (false≢true none))
          (λ _ none. none) parts.0) parts.1,
    )
waited (Tried w (Yes n)) past r less waits =
    let parts = and_parts (is_unadmitted (Tried w (Yes n) ∷ past) r) (is_message (call_of past r)) waits in
    elim (cases_Bool (is_at r (arrival_in (stage past w)))) [
      | inl at ↦ inr (by_arrival (arrival_in (stage past w)) at)
      | inr other ↦
          inl (
            less,
            and_from (is_unadmitted past r) (is_message (call_of past r))
                (ap (λ b. is_none (if b then None else admitted past r)) (sym other) ∙ parts.0) parts.1,
          )
    ]
  where
    by_arrival : (o : Option ℕ) → is_at r o ≡ true → o ≡ Some r
    by_arrival (Some x) at = ap (λ y. Some y) (eqb-true x r at)
    by_arrival None at = absurd (false≢true at)
waited (Tried w No) past r less waits = inl (less, waits)
waited (Tried w Raised) past r less waits = inl (less, waits)
waited (Tried w Dying) past r less waits = inl (less, waits)
waited (Entered conn) past r less waits = inl (less, waits)
waited (Filled conn size) past r less waits = inl (less, waits)
waited (Left conn) past r less waits = inl (less, waits)
waited (Collect conn a) past r less waits = inl (less, waits)
waited (Incarnated w a) past r less waits = inl (less, waits)
waited (Run w) past r less waits = inl (less, waits)
waited (Done w) past r less waits = inl (less, waits)
waited (TakeOut w n x) past r less waits = inl (less, waits)
waited (Etherealized w x y) past r less waits = inl (less, waits)
waited (Abandon w) past r less waits = inl (less, waits)

-- letting go moves no call
freed_rows : (f : Freed) (rows : List Row) (r : ℕ) → in_rows (map (freed_row f) rows) r ≡ in_rows rows r
freed_rows f [] r = refl
freed_rows f (row ∷ rows) r = ap (λ b. has row.calls.heap r || b) (freed_rows f rows r)

module _ (c : Config) (run limit : ℕ) (past : List Entry) (e : Entry) (given : IsGiven c run) (alone : IsGivenAlone c run) (within : IsWithinLimits c limit)
    (legal : IsLegal c run limit (e ∷ past)) where
  abbrev freed : Freed
  freed = freed_by c run past e

  let_gripped : (r : ℕ) → r < arrivals past → freed.all ≡ false → (hold : Hold) → Blocks (facts_of c run past r) hold
      → IsGripped c run (e ∷ past) r (let_go hold)
  let_gripped r less few (HeldTurn k) (takes, running) = turn_stays c run limit past e given alone within legal r less few k takes
  let_gripped r less few (Manager m) blocks = tt
  let_gripped r less few (Trial k) blocks = tt
  let_gripped r less few Main blocks = tt
  let_gripped r less few (Id n) blocks = tt
  let_gripped r less few (Change k) blocks = tt

  gripped_on : (r : ℕ) → r < arrivals past → (grip : Grip) → IsGripped c run past r grip → IsGripped c run (e ∷ past) r (freed_grip freed grip)
  gripped_on r less Loose is = tt
  gripped_on r less (Turn k) takes =
      cond_both freed.all Loose (Turn k) (λ g. IsGripped c run (e ∷ past) r g) (λ _. tt)
      (λ few. turn_stays c run limit past e given alone within legal r less few k takes)
  gripped_on r less (Held hold) blocks =
      cond_both (frees freed hold) (if freed.all then Loose else let_go hold) (Held hold) (λ g. IsGripped c run (e ∷ past) r g)
      (λ _. cond_both freed.all Loose (let_go hold) (λ g. IsGripped c run (e ∷ past) r g) (λ _. tt) (λ few. let_gripped r less few hold blocks))
      (λ still. still_blocked c run limit past e given alone within legal r less hold still blocks)

  pub known_after : (ready ready' : Heap) (rows : List Row) → ((r : ℕ) → has ready r ≡ true → has ready' r ≡ true)
      → ((r : ℕ) → received past e ≡ Some r → has ready' r ≡ true)
      → RowsAgree c run past ready rows → RowsAgree c run (e ∷ past) ready' (map (freed_row freed) rows)
  known_after ready ready' rows more comes known = record {
    covered = λ r less waits. elim (waited e past r less waits) [
      | inl was ↦ elim (or_cases (has ready r) (in_rows rows r) (known.covered r was.0 was.1)) [
        | inl is ↦ or_left (has ready' r) (in_rows (map (freed_row freed) rows) r) (more r is)
        | inr is ↦ or_right (has ready' r) (in_rows (map (freed_row freed) rows) r) (freed_rows freed rows r ∙ is)
      ]
      | inr came ↦ or_left (has ready' r) (in_rows (map (freed_row freed) rows) r) (comes r came)
    ];
    held = λ row is. (let (x, was, same) = in_image (freed_row freed) row rows is in subst (λ z. IsRow c run (e ∷ past) z) (sym same) (row_on x was));
  }
    where
      row_on : (x : Row) → In x rows → IsRow c run (e ∷ past) (freed_row freed x)
      row_on x was r is =
          (let it = known.held x was r is in ((let low = it.0 in let grows = arrivals_kept e past in omega (arith, low, grows)), gripped_on r it.0 x.grip it.1))
