-- What the rows wait for, as the next entry leaves it.
use Rattle.std.proofs.Common.{◌≡◌, ℕ, ◌<◌, true, false, not, ◌&&◌, ◌||◌, ◌==◌, is_some, List, [], ◌∷◌, map, Option, Some, None, option_map, if◌then◌else◌, refl, sym, ap, ap₂, subst, ◌∙◌}
use Rattle.std.proofs.lemmas.Bool.{cond_both, eqb-true, eq-eqb, true≢false, false_from_ne_true}
use Rattle.poa_base.specs.declared.Config.{Config}
use Rattle.poa_base.specs.declared.Verdict.{Verdict}
use Rattle.poa_base.specs.declared.Entry.{Entry}
use Rattle.poa_base.specs.declared.Entry.TheVariants.{Entered, Arrive, Filled, Left, Collect, Admit, Tried, Incarnated, Run, Done, TakeOut, Etherealized, Abandon}
use Rattle.poa_base.specs.declared.Attempt.TheVariants.{Yes, No, Raised, Dying}
use Rattle.history_standing.specs.Arrivals.{arrivals, call_of, conn_of}
use Rattle.history_standing.specs.Changes.{standing}
use Rattle.history_standing.specs.Logs.{command_in, command_done, order_for}
use Rattle.poa_history.specs.Replies.{is_waiting, number_of}
use Rattle.poa_history.specs.Settling.{before_admit, is_overtaken}
use Rattle.history_standing.specs.Stages.{stage, arrival_in, is_at, admitted}
use Rattle.history_standing.specs.Trees.{In}
use Rattle.history_standing.proofs.Members.{in_image}
use Rattle.core_outboxes.specs.declared.owing.Owing.{Owing}
use Rattle.core_outboxes.specs.declared.wait.Wait.{Wait}
use Rattle.core_outboxes.specs.declared.wait.Wait.TheVariants.{Nothing, Quiet, Off, Gone}
use Rattle.core_outboxes.specs.Waits.{wait_of, is_overtaking, manager_ordered, ordered_by, wait_begun}
use Rattle.core_outboxes.specs.Owed.{Owes, AreOwed, IsCurrent}
use Rattle.poa_history.specs.Heads.{head_of}
use Rattle.core_outboxes.specs.Desk.{set_wait, waited}
use Rattle.core_outboxes.proofs.Waiting.{IsOvertaken, overtaken_now}
use Rattle.core_outboxes.proofs.Deciding.{IsNext, AreRows}
use Rattle.history_standing.proofs.CallsKept.{call_kept}

-- an arrival whose trial made the child isn't one that waits
abbrev pub TriesNone : List Entry → Entry → Type 0
TriesNone past (Tried w (Yes n)) = (r : ℕ) → is_at r (arrival_in (stage past w)) ≡ true → is_waiting (admitted past r) ≡ false
TriesNone past e = Unit {0}

-- what wasn't admitted anew is overtaken by what the entry orders
still_over : (c : Config) (past : List Entry) (e : Entry) (r : ℕ) (w : Option Wait) → IsCurrent c past r w → IsOvertaken c (e ∷ past) (ordered_by c past e) r w
still_over c past e r None current = tt
still_over c past e r (Some Nothing) current = tt
still_over c past e r (Some (Quiet m)) current = overtaken_now c past e r m current
still_over c past e r (Some (Off m etherealize begun)) current = tt
still_over c past e r (Some (Gone k)) current = tt

-- what is admitted anew is overtaken by nothing
anew_over : (c : Config) (past : List Entry) (w a r : ℕ) (v : Verdict) (wait : Option Wait) → (a == r) ≡ true
    → IsOvertaken c (Admit w a v ∷ past) (ordered_by c past (Admit w a v)) r wait
anew_over c past w a r v None same = tt
anew_over c past w a r v (Some Nothing) same = tt
anew_over c past w a r v (Some (Quiet m)) same =
    ap (λ b. if b then false else (is_some (order_for c m (command_done past (Admit w a v))) || is_overtaken c m past r)) same
    ∙ sym (elim
    (manager_ordered c (command_done past (Admit w a v))) as (λ found. is_overtaking (option_map (λ k. record { arrival = a; manager = k }) found) r m ≡ false)
    [ Some k ↦ ap (λ b. not b && (k == m)) same | None ↦ refl ])
anew_over c past w a r v (Some (Off m etherealize begun)) same = tt
anew_over c past w a r v (Some (Gone k)) same = tt

admit_next : (c : Config) (run : ℕ) (past : List Entry) (w a : ℕ) (v : Verdict) (o : Owing) → Owes c run past o
    → IsNext c run past (Admit w a v) (ordered_by c past (Admit w a v)) (set_wait a (wait_begun c run past a v) o)
admit_next c run past w a v o owes =
    elim (o.arrival == a) as (λ b. (o.arrival == a) ≡ b
    → IsNext c run past (Admit w a v) (ordered_by c past (Admit w a v)) (if b then record o { wait = wait_begun c run past a v } else o)) [
      | true ↦ (λ same. (let is : o.arrival ≡ a = eqb-true o.arrival a same in let back : (a == o.arrival) ≡ true = eq-eqb a o.arrival (sym is) in
          record {
            wait = ap
                (λ b. if is_waiting (if b then Some v else admitted past o.arrival) then wait_of c
                (standing c run (if b then past else before_admit past o.arrival)) (command_in (call_of past o.arrival)) else None) back
                ∙ ap (wait_begun_of v) is;
            over = anew_over c past w a o.arrival v (wait_begun c run past a v) back;
          }))
      | false ↦
          (λ other.
          (let back : (a == o.arrival) ≡ false =
          false_from_ne_true (a == o.arrival) (λ same. true≢false (sym (eq-eqb o.arrival a (sym (eqb-true a o.arrival same))) ∙ other)) in
          record {
            wait = ap
                (λ b. if is_waiting (if b then Some v else admitted past o.arrival) then wait_of c
                (standing c run (if b then past else before_admit past o.arrival)) (command_in (call_of past o.arrival)) else None) back
                ∙ owes.wait;
            over = still_over c past (Admit w a v) o.arrival o.wait owes.current;
          }))
    ] refl
  where
    wait_begun_of : Verdict → ℕ → Option Wait
    wait_begun_of u r = wait_begun c run past r u

-- each row waits for what the history says then
pub row_next : (c : Config) (run : ℕ) (past : List Entry) (e : Entry) (o : Owing) → TriesNone past e → o.arrival < arrivals past → Owes c run past o
    → IsNext c run past e (ordered_by c past e) (waited c run past e o)
row_next c run past (Admit w a v) o none less owes = admit_next c run past w a v o owes
row_next c run past (Tried w (Yes n)) o none less owes =
    record {
      wait = cond_both (is_at o.arrival (arrival_in (stage past w))) None (admitted past o.arrival)
          (λ v. (if is_waiting v then wait_of c (standing c run (before_admit past o.arrival)) (command_in (call_of past o.arrival)) else None) ≡ o.wait)
          (λ at. sym
          (ap (λ b. if b then wait_of c (standing c run (before_admit past o.arrival)) (command_in (call_of past o.arrival)) else None) (none o.arrival at))
          ∙ owes.wait)
          (λ _. owes.wait);
      over = still_over c past (Tried w (Yes n)) o.arrival o.wait owes.current;
    }
row_next c run past (Arrive conn size call) o none less owes =
    record {
      wait = ap (λ x. if is_waiting (admitted past o.arrival) then wait_of c (standing c run (before_admit past o.arrival)) (command_in x) else None)
          (call_kept (Arrive conn size call) past o.arrival less) ∙ owes.wait;
      over = still_over c past (Arrive conn size call) o.arrival o.wait owes.current;
    }
row_next c run past (Entered conn) o none less owes = record { wait = owes.wait; over = still_over c past (Entered conn) o.arrival o.wait owes.current }
row_next c run past (Filled conn size) o none less owes = record { wait = owes.wait; over = still_over c past (Filled conn size) o.arrival o.wait owes.current }
row_next c run past (Left conn) o none less owes = record { wait = owes.wait; over = still_over c past (Left conn) o.arrival o.wait owes.current }
row_next c run past (Collect conn a) o none less owes = record { wait = owes.wait; over = still_over c past (Collect conn a) o.arrival o.wait owes.current }
row_next c run past (Tried w No) o none less owes = record { wait = owes.wait; over = still_over c past (Tried w No) o.arrival o.wait owes.current }
row_next c run past (Tried w Raised) o none less owes = record { wait = owes.wait; over = still_over c past (Tried w Raised) o.arrival o.wait owes.current }
row_next c run past (Tried w Dying) o none less owes = record { wait = owes.wait; over = still_over c past (Tried w Dying) o.arrival o.wait owes.current }
row_next c run past (Incarnated w x) o none less owes = record { wait = owes.wait; over = still_over c past (Incarnated w x) o.arrival o.wait owes.current }
row_next c run past (Run w) o none less owes = record { wait = owes.wait; over = still_over c past (Run w) o.arrival o.wait owes.current }
row_next c run past (Done w) o none less owes = record { wait = owes.wait; over = still_over c past (Done w) o.arrival o.wait owes.current }
row_next c run past (TakeOut w n x) o none less owes = record { wait = owes.wait; over = still_over c past (TakeOut w n x) o.arrival o.wait owes.current }
row_next c run past (Etherealized w x y) o none less owes =
    record { wait = owes.wait; over = still_over c past (Etherealized w x y) o.arrival o.wait owes.current }
row_next c run past (Abandon w) o none less owes = record { wait = owes.wait; over = still_over c past (Abandon w) o.arrival o.wait owes.current }

-- but for its wait a row is the other
abbrev IsSame : Owing → Owing → Type 0
IsSame o p = (p.arrival ≡ o.arrival) × (p.conn ≡ o.conn) × (p.number ≡ o.number) × (p.head ≡ o.head)

same_parts : {o p : Owing} → p ≡ o → IsSame o p
same_parts is = (ap (λ x. x.arrival) is, ap (λ x. x.conn) is, ap (λ x. x.number) is, ap (λ x. x.head) is)

waiting_parts : (o p : Owing) (wait : Option Wait) → p ≡ record o { wait = wait } → IsSame o p
waiting_parts o p wait is = (ap (λ x. x.arrival) is, ap (λ x. x.conn) is, ap (λ x. x.number) is, ap (λ x. x.head) is)

-- all else of a row is as it was
same_row : (c : Config) (run : ℕ) (past : List Entry) (e : Entry) (o p : Owing) → p ≡ waited c run past e o → IsSame o p
same_row c run past (Admit w a v) o p is =
    elim (o.arrival == a) as (λ b. p ≡ (if b then record o { wait = wait_begun c run past a v } else o) → IsSame o p)
    [ true ↦ waiting_parts o p (wait_begun c run past a v) | false ↦ same_parts ] is
same_row c run past (Tried w x) o p is = same_parts is
same_row c run past (Arrive conn size call) o p is = same_parts is
same_row c run past (Entered conn) o p is = same_parts is
same_row c run past (Filled conn size) o p is = same_parts is
same_row c run past (Left conn) o p is = same_parts is
same_row c run past (Collect conn a) o p is = same_parts is
same_row c run past (Incarnated w x) o p is = same_parts is
same_row c run past (Run w) o p is = same_parts is
same_row c run past (Done w) o p is = same_parts is
same_row c run past (TakeOut w n x) o p is = same_parts is
same_row c run past (Etherealized w x y) o p is = same_parts is
same_row c run past (Abandon w) o p is = same_parts is

same_arrivals : (c : Config) (run : ℕ) (past : List Entry) (e : Entry) (os : List Owing)
    → map (λ o. o.arrival) (map (waited c run past e) os) ≡ map (λ o. o.arrival) os
same_arrivals c run past e [] = refl
same_arrivals c run past e (o ∷ os) = ap₂ (λ r rs. r ∷ rs) (same_row c run past e o (waited c run past e o) refl).0 (same_arrivals c run past e os)

-- the rows of the calls that were owed a reply, once the entry's own arrival waits
pub rows_next : (c : Config) (run : ℕ) (past : List Entry) (e : Entry) (os : List Owing) → TriesNone past e
    → ((o : Owing) → In o os → o.arrival < arrivals past) → AreOwed c run past os
    → AreRows c run past e (ordered_by c past e) (map (waited c run past e) os)
rows_next c run past e os none less owed =
    record {
      which = same_arrivals c run past e os ∙ owed.which;
      conns = λ p there. (let from = in_image (waited c run past e) p os there in let same = same_row c run past e from.0 p from.2 in
          ap (conn_of past) same.0 ∙ (owed.each from.0 from.1).conn ∙ ap (λ k. Some k) (sym same.1));
      numbers = λ p there. (let from = in_image (waited c run past e) p os there in let same = same_row c run past e from.0 p from.2 in
          ap (λ r. number_of (call_of past r)) same.0 ∙ (owed.each from.0 from.1).number ∙ sym same.2);
      heads = λ p there. (let from = in_image (waited c run past e) p os there in let same = same_row c run past e from.0 p from.2 in
          ap (λ r. head_of (call_of past r)) same.0 ∙ (owed.each from.0 from.1).head ∙ sym same.3);
      next = λ p there. (let from = in_image (waited c run past e) p os there in
          subst (IsNext c run past e (ordered_by c past e)) (sym from.2) (row_next c run past e from.0 none (less from.0 from.1) (owed.each from.0 from.1)));
    }
