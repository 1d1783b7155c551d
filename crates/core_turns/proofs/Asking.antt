-- What comes of asking the calls that wait.
use Rattle.std.specs.Prelude.{◌≡◌, ◌==◌, ℕ, zero, suc, ◌<◌, ◌≤◌, Bool, true, false, not, ◌&&◌, ◌||◌, if◌then◌else◌, List, [], ◌∷◌, length, filter, slice_index_or, Option, Some, None, option_map, ◌⊎◌, refl}
use Rattle.std.specs.List.{list_any}
use Rattle.std.proofs.Common.{inl, inr, sym, subst, ap, ap₂, ◌∙◌, arith}
use Rattle.std.proofs.lemmas.Bool.{cond_both, cases_Bool, cases_lt, and_parts, and_from, or_cases, true≢false, not_from_false}
use Rattle.poa_base.specs.declared.Call.{Call}
use Rattle.poa_base.specs.declared.Call.TheVariants.{Request, Locate, Line}
use Rattle.poa_base.specs.declared.Cause.{Cause}
use Rattle.poa_base.specs.declared.Config.{Config}
use Rattle.poa_base.specs.declared.Entry.{Entry}
use Rattle.poa_base.specs.declared.Entry.TheVariants.{Admit}
use Rattle.poa_base.specs.declared.Verdict.{Verdict}
use Rattle.poa_choose.specs.Table.{first_row}
use Rattle.poa_choose.specs.declared.Choice.{Choice}
use Rattle.poa_choose.specs.declared.Choice.TheVariants as choices
use Rattle.poa_choose.specs.declared.Facts.{Facts}
use Rattle.history_standing.specs.Arrivals.{arrivals, call_of, is_message}
use Rattle.history_standing.specs.Situations.{facts_of}
use Rattle.history_standing.specs.Stages.{is_unadmitted}
use Rattle.poa_history.specs.Turns.{admission_of, admission}
use Rattle.poa_history.specs.Verdicts.{chosen, verdict_on, verdict}
use Rattle.history_standing.proofs.Members.{some_in, kept_in, in_kept}
use Rattle.history_standing.specs.Trees.{In}
use Rattle.poa_history.specs.Numbers.{below, Ascends}
use Rattle.poa_history.proofs.Numbers.{below_in, in_below, ascending}
use Rattle.held_queue.specs.Blocks.{Blocks, hold_for}
use Rattle.held_queue.specs.declared.hold.Hold.{Hold}
use Rattle.held_queue.specs.declared.hold.Hold.TheVariants.{Main}
use Rattle.held_queue.proofs.HoldRows.{held_blocks, blocks_held}
use Rattle.held_queue.specs.Held.{IsGripped, HeldAgrees, IsSettled}
use Rattle.held_queue.specs.Numbers.{has}
use Rattle.held_queue.specs.Rows.{in_rows, is_asked}
use Rattle.poa_history.specs.Waiting.{is_waiting}
use Rattle.held_queue.specs.declared.grip.Grip.{Grip}
use Rattle.held_queue.specs.declared.grip.Grip.TheVariants.{Held, Turn, Loose}
use Rattle.held_queue.specs.declared.queue.HeldQueue.{HeldQueue}
use Rattle.core_turns.specs.Looks.{looked}
use Rattle.core_turns.specs.declared.looks.Look.{Look}
use Rattle.core_turns.specs.declared.looks.Look.TheVariants as looks
use Rattle.core_arrivals.specs.Firsts.{IsFirst, earlier}
use Rattle.core_arrivals.specs.Queued.{is_waiting_line}
use Rattle.core_arrivals.proofs.Firsts.{given_none, given_first, earlier_first}
use Rattle.core_arrivals.proofs.Numbers.{in_get, rises}
use Rattle.core_arrivals.proofs.Queueing.{waiting_beyond}

-- what waits arrived
arrived_by : (test : ℕ → Bool) (n r : ℕ) → (n ≤ r → test r ≡ false) → test r ≡ true → r < n
arrived_by test n r beyond is = elim (cases_lt r n) [ inl low ↦ low | inr high ↦ absurd (true≢false (sym is ∙ beyond high)) ]

module _ (c : Config) (run : ℕ) (h : List Entry) (w : ℕ) where
  abbrev give : ℕ → Option Verdict
  give r = verdict c run h r w

  message_row : (o : Option Call) (r : ℕ) → is_message o ≡ true → verdict_on c run h r w o ≡ chosen (first_row (facts_of c run h r) w)
  message_row (Some (Request head target operation body)) r is = refl
  message_row (Some (Locate head target)) r is = refl
  message_row (Some (Line number command)) r is = absurd (let e : false ≡ true = is in cc)
  message_row None r is = absurd (let e : false ≡ true = is in cc)

  -- the verdict on a request or a locate is that of the table
  message_verdict : (r : ℕ) → is_waiting h r ≡ true → give r ≡ chosen (first_row (facts_of c run h r) w)
  unfolding verdict
  message_verdict r waits = message_row (call_of h r) r (and_parts (is_unadmitted h r) (is_message (call_of h r)) waits).1

  looked_go : (f : Facts) (v : Verdict) → looked f w ≡ looks.Go v → chosen (first_row f w) ≡ Some v
  looked_go f v =
      elim (first_row f w) as (λ ch. (elim ch as (λ _. Look) [ choices.Go x ↦ looks.Go x | choices.Held cause ↦ looks.Held (hold_for f cause) ]) ≡ looks.Go v
      → chosen ch ≡ Some v) [
        | choices.Go x ↦ λ same. (let e : looks.Go x ≡ looks.Go v = same in let at : x ≡ v = cc in ap (λ y. Some y) at)
        | choices.Held cause ↦ λ same. absurd (let e : looks.Held (hold_for f cause) ≡ looks.Go v = same in cc)
      ]

  -- a call that is looked at and held is blocked
  pub looked_held : (f : Facts) (hold : Hold) → looked f w ≡ looks.Held hold → Blocks f hold
  looked_held f hold =
      elim (first_row f w) as (λ ch. first_row f w ≡ ch
      → (elim ch as (λ _. Look) [ choices.Go x ↦ looks.Go x | choices.Held cause ↦ looks.Held (hold_for f cause) ]) ≡ looks.Held hold → Blocks f hold) [
        | choices.Go x ↦ λ _ same. absurd (let e : looks.Go x ≡ looks.Held hold = same in cc)
        | choices.Held cause ↦
            λ row same.
            (let e : looks.Held (hold_for f cause) ≡ looks.Held hold = same in let at : hold_for f cause ≡ hold = cc in
            subst (λ x. Blocks f x) at (held_blocks f cause w row))
      ] refl

  pub waiting_arrived : (r : ℕ) → is_waiting h r ≡ true → r < arrivals h
  waiting_arrived r waits = arrived_by (is_waiting h) (arrivals h) r (waiting_beyond h r) waits

  module _ (q : HeldQueue) (held : HeldAgrees c run h q) (settled : IsSettled w q) where
    -- a call that waits, and that no call that is ready is ahead of, is held
    held_none : (r : ℕ) → r < arrivals h → is_waiting h r ≡ true → ((p : ℕ) → has q.ready.heap p ≡ true → p ≤ r → ⊥) → give r ≡ None
    held_none r less waits none =
        elim (or_cases (has q.ready.heap r) (in_rows q.rows.items r) (held.covered r less waits)) [
          | inl is ↦ absurd (none r is (omega arith))
          | inr is ↦ (let (row, there, in_row) = some_in (λ x. has x.calls.heap r) q.rows.items is in
              elim (settled row there) [
                | inl unasked ↦ by_grip row.grip unasked (held.held row there r in_row).1
                | inr ahead ↦ (let (p, ready, low) = ahead r in_row in absurd (none p ready low))
              ])
        ]
      where
        by_grip : (grip : Grip) → is_asked grip w ≡ false → IsGripped c run h r grip → give r ≡ None
        by_grip (Held hold) unasked blocks = message_verdict r waits
            ∙ blocks_held (facts_of c run h r) w hold blocks (λ main. ap (λ x. is_asked (Held x) w) (sym main) ∙ unasked)
        by_grip (Turn k) unasked takes = absurd (true≢false unasked)
        by_grip Loose unasked is = absurd (true≢false unasked)

    pub nobody_first : ((r : ℕ) → has q.ready.heap r ≡ false) → IsFirst (is_waiting h) give (arrivals h) None
    nobody_first none r less waits = held_none r less waits (λ p is low. true≢false (sym is ∙ none p))

    pub ready_first : (r : ℕ) (v : Verdict) → ((p : ℕ) → has q.ready.heap p ≡ true → r ≤ p) → is_waiting h r ≡ true → looked (facts_of c run h r) w ≡ looks.Go v
        → IsFirst (is_waiting h) give (arrivals h) (Some (r, v))
    ready_first r v least waits goes = (
      waiting_arrived r waits,
      waits,
      message_verdict r waits ∙ looked_go (facts_of c run h r) v goes,
      λ p low waits'. held_none p (waiting_arrived p waits') waits' (λ x is ahead. (let high = least x is in omega (arith, low, high, ahead))),
    )

  -- the lines up to a place are held
  module _ (items : List ℕ) (are : items ≡ filter (is_waiting_line h) (below (arrivals h))) where
    placed : (r : ℕ) → r < arrivals h → is_waiting_line h r ≡ true → (i : ℕ) × (i < length items) × (slice_index_or items i 0 ≡ r)
    placed r low is = in_get r items (subst (λ xs. In r xs) (sym are) (kept_in (is_waiting_line h) r (below (arrivals h)) (below_in r (arrivals h) low) is))

    pub lines_held : (n : ℕ) → length items ≤ n → ((j : ℕ) → j < n → give (slice_index_or items j 0) ≡ None)
        → IsFirst (is_waiting_line h) give (arrivals h) None
    lines_held n high none r low is = (let (i, less, at) = placed r low is in ap give (sym at) ∙ none i (omega (arith, less, high)))

    pub line_first : (i : ℕ) (v : Verdict) → i < length items → ((j : ℕ) → j < i → give (slice_index_or items j 0) ≡ None)
        → give (slice_index_or items i 0) ≡ Some v → IsFirst (is_waiting_line h) give (arrivals h) (Some (slice_index_or items i 0, v))
    line_first i v low none goes =
        let r = slice_index_or items i 0 in
        let kept = in_kept (is_waiting_line h) r (below (arrivals h)) (subst (λ xs. In r xs) are (got items i low)) in (
          in_below r (arrivals h) kept.0,
          kept.1,
          goes,
          λ p less is. (let (j, within, at) = placed p (let top = in_below r (arrivals h) kept.0 in omega (arith, less, top)) is in
              elim (cases_lt j i) [
                | inl before ↦ ap give (sym at) ∙ none j before
                | inr behind ↦
                    absurd (let up = rises items (subst Ascends (sym are) (ascending (is_waiting_line h) (arrivals h))) i j behind within in
                    omega (arith, up, at, less))
              ]),
        )
      where
        got : (xs : List ℕ) (i : ℕ) → i < length xs → In (slice_index_or xs i 0) xs
        got [] i low' = absurd (omega (arith, low'))
        got (x ∷ xs) zero low' = inl refl
        got (x ∷ xs) (suc i) low' = inr (got xs i (omega (arith, low')))

  -- what is unadmitted is a line, or a request or a locate
  kinds : (r : ℕ) → is_unadmitted h r ≡ true → (is_waiting_line h r ≡ true) ⊎ (is_waiting h r ≡ true)
  kinds r is =
      elim (cases_Bool (is_message (call_of h r))) [
        | inl message ↦ inr (and_from (is_unadmitted h r) (is_message (call_of h r)) is message)
        | inr line ↦ inl (and_from (is_unadmitted h r) (not (is_message (call_of h r))) is (not_from_false (is_message (call_of h r)) line))
      ]

  first_of : (found : Option (ℕ × Verdict)) → IsFirst (is_unadmitted h) give (arrivals h) found → admission c run h w ≡ option_map (λ a. Admit w a.0 a.1) found
  first_of None none =
      given_none (admission_of c run h w) (arrivals h)
      (λ r low. cond_both (is_unadmitted h r) (option_map (λ v. Admit w r v) (give r)) None (λ o. o ≡ None)
      (λ is. ap (λ o. option_map (λ v. Admit w r v) o) (none r low is)) (λ _. refl))
  first_of (Some a) first =
      given_first (admission_of c run h w) (arrivals h) a.0 (Admit w a.0 a.1) first.0
      (ap₂ (λ b o. if b then option_map (λ v. Admit w a.0 v) o else None) first.1 first.2)
      (λ r low. cond_both (is_unadmitted h r) (option_map (λ v. Admit w r v) (give r)) None (λ o. o ≡ None)
      (λ is. ap (λ o. option_map (λ v. Admit w r v) o) (first.3 r low is)) (λ _. refl))

  -- the earlier of the first line and the first request or locate is admitted
  pub admission_is : (a b : Option (ℕ × Verdict)) → IsFirst (is_waiting_line h) give (arrivals h) a → IsFirst (is_waiting h) give (arrivals h) b
      → admission c run h w ≡ option_map (λ x. Admit w x.0 x.1) (earlier a b)
  admission_is a b first second =
      first_of (earlier a b) (earlier_first (is_waiting_line h) (is_waiting h) (is_unadmitted h) give (arrivals h) kinds
      (λ r is. (and_parts (is_unadmitted h r) (not (is_message (call_of h r))) is).0)
      (λ r is. (and_parts (is_unadmitted h r) (is_message (call_of h r)) is).0) a b first second)

-- what a look at a call that may not wait tells
pub looked_waits : (b : Bool) (x : Look) (o : Option Look) (l : Look) → o ≡ (if b then Some x else None) → o ≡ Some l → (b ≡ true) × (x ≡ l)
looked_waits true x o l is at = (refl, (let e : Some x ≡ Some l = sym is ∙ at in cc))
looked_waits false x o l is at = absurd (let e : None ≡ Some l = sym is ∙ at in cc)

pub looked_gone : (b : Bool) (x : Look) (o : Option Look) → o ≡ (if b then Some x else None) → o ≡ None → b ≡ false
looked_gone true x o is at = absurd (let e : Some x ≡ None = sym is ∙ at in cc)
looked_gone false x o is at = refl
