-- The desk after each entry of a legal history.
use Rattle.std.proofs.Common.{◌≡◌, ℕ, ◌<◌, zero, suc, Bool, true, false, not, ◌&&◌, ◌||◌, ◌==◌, List, [], ◌∷◌, ◌++◌, map, filter, slice_get, cond, Option, Some, None, if◌then◌else◌, refl, sym, ap, ap₂, subst, ◌∙◌, inl, inr, ◌⊎◌, arith}
use Rattle.std.proofs.lemmas.Bool.{eqb-true, eq-eqb, true≢false, false_from_ne_true}
use Rattle.std.proofs.lemmas.List.{map-append, append-nil}
use Rattle.std.proofs.lemmas.List.Elements.{filter-append}
use Rattle.poa_base.specs.declared.Config.{Config}
use Rattle.poa_base.specs.declared.Call.{Call}
use Rattle.poa_base.specs.declared.Entry.{Entry}
use Rattle.poa_base.specs.declared.Entry.TheVariants.{Entered, Arrive, Filled, Left, Collect, Admit, Tried, Incarnated, Run, Done, TakeOut, Etherealized, Abandon}
use Rattle.poa_base.specs.declared.Attempt.TheVariants.{Yes, No, Raised, Dying}
use Rattle.history_standing.specs.Arrivals.{arrivals, call_of, conn_of}
use Rattle.history_standing.specs.Changes.{standing}
use Rattle.poa_history.specs.InFlight.{IsManned, Holds}
use Rattle.poa_history.specs.Legal.{IsLegal}
use Rattle.poa_history.specs.Replies.{asks, decided, is_collected, is_waiting, number_of}
use Rattle.history_standing.specs.Logs.{command_in}
use Rattle.poa_history.specs.Settling.{before_admit, settles}
use Rattle.history_standing.specs.Stages.{stage, arrival_in, is_at, admitted}
use Rattle.poa_history.specs.States.{Stored}
use Rattle.poa_history.proofs.TurnTells.{trial_is}
use Rattle.history_standing.specs.Trees.{In}
use Rattle.history_standing.proofs.Members.{in_kept, image_in}
use Rattle.core_outboxes.specs.declared.decision.Decision.{Decision}
use Rattle.core_outboxes.specs.declared.filed.Filed.{Filed as FiledRow}
use Rattle.core_outboxes.specs.declared.owing.Owing.{Owing}
use Rattle.poa_history.specs.Numbers.{below, Ascends}
use Rattle.core_outboxes.specs.Waits.{wait_of, wait_in, ordered_by}
use Rattle.core_outboxes.specs.Owed.{is_owed, AreOwed, Owes, IsCurrent, arrivals_of}
use Rattle.poa_history.specs.Heads.{head_of}
use Rattle.core_outboxes.specs.Decided.{answered, AreFiled, Decides, IsFiled, target_of}
use Rattle.core_outboxes.specs.Desk.{is_decided, file, waited, IsAlone}
use Rattle.poa_history.proofs.Numbers.{in_below, ascending}
use Rattle.core_outboxes.proofs.Deciding.{AreRows, owed_which}
use Rattle.core_outboxes.proofs.FiledAfter.{row_stays, filed_after, each_filed}
use Rattle.core_outboxes.proofs.RowsNext.{TriesNone, rows_next}
use Rattle.core_outboxes.proofs.Arrived.{decided_arrived, admitted_arrived, next_decided, collected_decided, at_is}
use Rattle.core_outboxes.proofs.Removed.{Distinct, distinct_below, distinct_kept}

-- where no arrival stands twice, the target stands in one row at most
pub alone_rows : (target : Option ℕ) (os : List Owing) → Distinct (map (λ o. o.arrival) os) → IsAlone target os
alone_rows target [] distinct i o is at = absurd (let e : None ≡ Some o = is in cc)
alone_rows target (x ∷ xs) distinct zero o is at = refl
alone_rows target (x ∷ xs) distinct (suc i) o is at =
    ap₂ (λ a b. a || b)
    (false_from_ne_true (is_at x.arrival target)
    (λ same. distinct.0
    (subst (λ r. In r (map (λ y. y.arrival) xs)) (both (at_is x.arrival target same) (at_is o.arrival target at))
    (image_in (λ y. y.arrival) o xs (got i xs is)))))
    (alone_rows target xs distinct.1 i o is at)
  where
    both : {a b : ℕ} → target ≡ Some a → target ≡ Some b → b ≡ a
    both one two = (let e : Some _ ≡ Some _ = sym two ∙ one in cc)

    got : (k : ℕ) (ys : List Owing) → slice_get ys k ≡ Some o → In o ys
    got k [] is = absurd (let e : None ≡ Some o = is in cc)
    got zero (y ∷ ys) is = inl (let e : Some y ≡ Some o = is in cc)
    got (suc k) (y ∷ ys) is = inr (got k ys is)

-- a trial isn't a command that waits
pub tries_none : (c : Config) (run limit : ℕ) (past : List Entry) (e : Entry) → IsManned c run past → IsLegal c run limit (e ∷ past) → TriesNone past e
tries_none c run limit past (Tried w (Yes n)) manned legal =
    λ r at. (let trial = trial_is c run past w (Yes n) legal.0 in
    let mine : arrival_in (stage past w) ≡ Some r = at_is r (arrival_in (stage past w)) at in
    let same : trial.arrival ≡ r = (let e : Some trial.arrival ≡ Some r = ap arrival_in (sym trial.begun) ∙ mine in cc) in
    let held = subst (Holds past (standing c run past)) trial.begun (manned.stages w) in
    ap is_waiting (ap (admitted past) (sym same) ∙ held.0))
tries_none c run limit past (Tried w No) manned legal = tt
tries_none c run limit past (Tried w Raised) manned legal = tt
tries_none c run limit past (Tried w Dying) manned legal = tt
tries_none c run limit past (Entered conn) manned legal = tt
tries_none c run limit past (Arrive conn size call) manned legal = tt
tries_none c run limit past (Filled conn size) manned legal = tt
tries_none c run limit past (Left conn) manned legal = tt
tries_none c run limit past (Collect conn a) manned legal = tt
tries_none c run limit past (Admit w a v) manned legal = tt
tries_none c run limit past (Incarnated w a) manned legal = tt
tries_none c run limit past (Run w) manned legal = tt
tries_none c run limit past (Done w) manned legal = tt
tries_none c run limit past (TakeOut w n x) manned legal = tt
tries_none c run limit past (Etherealized w x y) manned legal = tt
tries_none c run limit past (Abandon w) manned legal = tt

-- what is collected after an entry was decided before it
pub collected_before : (c : Config) (run limit : ℕ) (e : Entry) (past : List Entry) (r : ℕ) → IsLegal c run limit (e ∷ past) → is_collected (e ∷ past) r ≡ true
    → decided c run past r ≡ true
collected_before c run limit (Collect conn a) past r legal is =
    elim (a == r) as (λ b. (a == r) ≡ b → (b || is_collected past r) ≡ true → decided c run past r ≡ true) [
      | true ↦ (λ same _. next_decided c run past conn r (legal.0 ∙ ap (λ x. Some x) (eqb-true a r same)))
      | false ↦ (λ _ is. collected_decided c run limit past r legal.1 is)
    ] refl is
collected_before c run limit (Entered conn) past r legal is = collected_decided c run limit past r legal.1 is
collected_before c run limit (Arrive conn size call) past r legal is = collected_decided c run limit past r legal.1 is
collected_before c run limit (Filled conn size) past r legal is = collected_decided c run limit past r legal.1 is
collected_before c run limit (Left conn) past r legal is = collected_decided c run limit past r legal.1 is
collected_before c run limit (Admit w a v) past r legal is = collected_decided c run limit past r legal.1 is
collected_before c run limit (Tried w a) past r legal is = collected_decided c run limit past r legal.1 is
collected_before c run limit (Incarnated w a) past r legal is = collected_decided c run limit past r legal.1 is
collected_before c run limit (Run w) past r legal is = collected_decided c run limit past r legal.1 is
collected_before c run limit (Done w) past r legal is = collected_decided c run limit past r legal.1 is
collected_before c run limit (TakeOut w n x) past r legal is = collected_decided c run limit past r legal.1 is
collected_before c run limit (Etherealized w x y) past r legal is = collected_decided c run limit past r legal.1 is
collected_before c run limit (Abandon w) past r legal is = collected_decided c run limit past r legal.1 is

module _ (c : Config) (run limit : ℕ) (opened : Stored) (past : List Entry) (e : Entry) (manned : IsManned c run past) (legal : IsLegal c run limit (e ∷ past))
    (decision : Option Decision) (decides : Decides c run opened past e decision) (os : List Owing) (owed : AreOwed c run past os) where
  abbrev now : Owing → Bool
  now o = is_decided c (standing c run (e ∷ past)) (target_of decision) (ordered_by c past e) o

  rows_arrived : (o : Owing) → In o os → o.arrival < arrivals past
  rows_arrived o there =
      in_below o.arrival (arrivals past)
      (in_kept (is_owed c run past) o.arrival (below (arrivals past)) (subst (In o.arrival) owed.which (image_in (λ x. x.arrival) o os there))).0

  pub rows_after : AreRows c run past e (ordered_by c past e) (map (waited c run past e) os)
  rows_after = rows_next c run past e os (tries_none c run limit past e manned legal) rows_arrived owed

  pub rows_alone : IsAlone (target_of decision) (map (waited c run past e) os)
  rows_alone =
      alone_rows (target_of decision) (map (waited c run past e) os)
      (subst Distinct (sym rows_after.which) (distinct_kept (is_owed c run past) (below (arrivals past)) (distinct_below (arrivals past))))

  pub rows_ascend : Ascends (arrivals_of (map (waited c run past e) os))
  rows_ascend = subst Ascends (sym rows_after.which) (ascending (is_owed c run past) (arrivals past))

  -- those of the calls that had arrived that are owed a reply still
  pub owed_before : map (λ o. o.arrival) (filter (λ o. not (now o)) (map (waited c run past e) os)) ≡ filter (is_owed c run (e ∷ past)) (below (arrivals past))
  owed_before = owed_which c run past e (ordered_by c past e) (map (waited c run past e) os) rows_after (target_of decision) decides.target_is

  pub each_owed : (o : Owing) → In o (filter (λ o. not (now o)) (map (waited c run past e) os)) → Owes c run (e ∷ past) o
  each_owed = row_stays c run opened past e (ordered_by c past e) (map (waited c run past e) os) rows_after decision decides

  -- where no call arrives, these are all
  pub owed_after : arrivals (e ∷ past) ≡ arrivals past → AreOwed c run (e ∷ past) (filter (λ o. not (now o)) (map (waited c run past e) os))
  owed_after same = record { which = owed_before ∙ ap (λ n. filter (is_owed c run (e ∷ past)) (below n)) (sym same); each = each_owed }

  -- the replies, once those that the entry collects are taken out
  pub filed_then : (fs : List FiledRow) → map (λ f. f.arrival) fs ≡ filter (λ r. not (is_collected (e ∷ past) r)) (answered c run past)
      → ((f : FiledRow) → In f fs → IsFiled c run opened past f)
      → AreFiled c run opened (e ∷ past) (fs ++ map (file decision) (filter now (map (waited c run past e) os)))
  filed_then fs which each =
      record {
        which = filed_after c run opened past e (ordered_by c past e) (map (waited c run past e) os) rows_after decision decides
            (λ r. not (is_collected (e ∷ past) r))
            (λ r _ fresh. ap not
            (false_from_ne_true (is_collected (e ∷ past) r) (λ is. true≢false (sym (collected_before c run limit e past r legal is) ∙ fresh)))) fs which;
        each = each_filed c run opened past e (ordered_by c past e) (map (waited c run past e) os) rows_after decision decides fs each;
      }

-- a call that arrives is undecided, and waits for nothing
module _ (c : Config) (run limit : ℕ) (past : List Entry) (conn size : ℕ) (call : Call) (legal : IsLegal c run limit (Arrive conn size call ∷ past)) where
  abbrev e : Entry
  e = Arrive conn size call

  abbrev r : ℕ
  r = arrivals past

  not_admitted : admitted past r ≡ None
  not_admitted = elim (admitted past r) as (λ o. admitted past r ≡ o → o ≡ None)
      [ None ↦ (λ _. refl) | Some v ↦ (λ is. absurd (let less = admitted_arrived c run limit past r v legal.1 is in omega (arith, less))) ] refl

  not_decided : decided c run (e ∷ past) r ≡ false
  not_decided =
      ap₂ (λ b v. b || (is_waiting v && settles c run (e ∷ past) r))
      (false_from_ne_true (decided c run past r) (λ is. (let less = decided_arrived c run limit past r legal.1 is in omega (arith, less)))) not_admitted

  pub new_owes : (o : Owing) → o.arrival ≡ r → o.conn ≡ conn → o.number ≡ number_of (Some call) → o.head ≡ head_of (Some call) → o.wait ≡ None
      → Owes c run (e ∷ past) o
  new_owes o at conn_is number_is head_is wait_is =
      record {
        conn = ap (λ x. conn_of (e ∷ past) x) at ∙ own (Some conn) (conn_of past r) ∙ ap (λ x. Some x) (sym conn_is);
        number = ap (λ x. number_of (call_of (e ∷ past) x)) at ∙ ap number_of (own (Some call) (call_of past r)) ∙ sym number_is;
        head = ap (λ x. head_of (call_of (e ∷ past) x)) at ∙ ap head_of (own (Some call) (call_of past r)) ∙ sym head_is;
        wait = ap (wait_in c run (e ∷ past)) at ∙ ap
            (λ v. if is_waiting v then wait_of c (standing c run (before_admit past r)) (command_in (call_of (e ∷ past) r)) else None) not_admitted
            ∙ sym wait_is;
        current = subst (λ w. IsCurrent c (e ∷ past) o.arrival w) (sym wait_is) tt;
      }
    where
      own : {A : Type 0} (x y : A) → (if r == r then x else y) ≡ x
      own x y = ap (λ b. if b then x else y) (eq-eqb r r refl)

  -- it is owed a reply where it asks one
  pub owed_with : (os : List Owing) (o : Owing) → map (λ x. x.arrival) os ≡ filter (is_owed c run (e ∷ past)) (below r)
      → ((x : Owing) → In x os → Owes c run (e ∷ past) x)
      → o.arrival ≡ r → Owes c run (e ∷ past) o → asks (Some call) ≡ true → AreOwed c run (e ∷ past) (os ++ o ∷ [])
  owed_with os o which each at owes asked =
      record {
        which = map-append (λ x. x.arrival) os (o ∷ [])
            ∙ ap₂ (λ xs x. xs ++ x ∷ []) which at
            ∙ ap (λ b. filter (is_owed c run (e ∷ past)) (below r) ++ cond b (r ∷ []) []) (sym (owed_is asked))
            ∙ sym (filter-append (is_owed c run (e ∷ past)) (below r) (r ∷ []));
        each = λ x there. (elim (in_last x os there) [ inl old ↦ each x old | inr new ↦ subst (Owes c run (e ∷ past)) (sym new) owes ]);
      }
    where
      owed_is : asks (Some call) ≡ true → is_owed c run (e ∷ past) r ≡ true
      owed_is asked = ap₂ (λ a b. a && not b) (ap (λ b. asks (if b then Some call else call_of past r)) (eq-eqb r r refl) ∙ asked) not_decided

      in_last : (x : Owing) (xs : List Owing) → In x (xs ++ o ∷ []) → In x xs ⊎ (x ≡ o)
      in_last x [] (inl same) = inr same
      in_last x [] (inr none) = absurd none
      in_last x (y ∷ ys) (inl same) = inl (inl same)
      in_last x (y ∷ ys) (inr more) = elim (in_last x ys more) [ inl there ↦ inl (inr there) | inr same ↦ inr same ]

  pub owed_without : (os : List Owing) → map (λ x. x.arrival) os ≡ filter (is_owed c run (e ∷ past)) (below r)
      → ((x : Owing) → In x os → Owes c run (e ∷ past) x)
      → asks (Some call) ≡ false → AreOwed c run (e ∷ past) os
  owed_without os which each unasked =
      record {
        which = which
            ∙ sym (filter-append (is_owed c run (e ∷ past)) (below r) (r ∷ [])
            ∙ ap (λ b. filter (is_owed c run (e ∷ past)) (below r) ++ cond b (r ∷ []) []) (unowed unasked)
            ∙ append-nil (filter (is_owed c run (e ∷ past)) (below r)));
        each = each;
      }
    where
      unowed : asks (Some call) ≡ false → is_owed c run (e ∷ past) r ≡ false
      unowed unasked = ap (λ a. a && not (decided c run (e ∷ past) r)) (ap (λ b. asks (if b then Some call else call_of past r)) (eq-eqb r r refl) ∙ unasked)
