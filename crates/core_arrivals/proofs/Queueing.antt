-- The queue, kept entry by entry.
use Rattle.std.specs.Prelude.{◌≡◌, ℕ, suc, ◌<◌, ◌≤◌, Bool, true, false, not, ◌&&◌, ◌==◌, nat_le, nat_lt, cond, if◌then◌else◌, List, [], ◌∷◌, ◌++◌, length, filter, Option, Some, None, is_none, refl}
use Rattle.std.specs.List.{list_any}
use Rattle.std.proofs.Common.{inl, inr, sym, subst, ap, ap₂, ◌∙◌, arith}
use Rattle.std.proofs.lemmas.Bool.{cases_Bool, cond_both, true≢false, eqb-true, eq-eqb, ltb-true, ltb-false, false_from_ne_true}
use Rattle.std.proofs.lemmas.List.{append-nil}
use Rattle.std.proofs.lemmas.List.Elements.{filter-append}
use Rattle.poa_base.specs.declared.Config.{Config}
use Rattle.poa_base.specs.declared.Call.{Call}
use Rattle.poa_base.specs.declared.Verdict.{Verdict}
use Rattle.poa_base.specs.declared.Verdict.TheVariants.{Try}
use Rattle.poa_base.specs.declared.Entry.{Entry}
use Rattle.poa_base.specs.declared.Entry.TheVariants.{Entered, Arrive, Filled, Left, Collect, Admit, Tried, Incarnated, Run, Done, TakeOut, Etherealized, Abandon}
use Rattle.poa_base.specs.declared.Attempt.{Attempt}
use Rattle.poa_base.specs.declared.Attempt.TheVariants.{Yes, No, Raised, Dying}
use Rattle.history_standing.specs.declared.stage.Stage.TheVariants.{Trying}
use Rattle.history_standing.specs.Arrivals.{arrivals, call_of, is_message}
use Rattle.history_standing.specs.Changes.{standing}
use Rattle.poa_history.specs.InFlight.{Holds, IsManned}
use Rattle.poa_history.specs.Legal.{MayFollow}
use Rattle.history_standing.specs.Situations.{is_crowded, waiting_messages}
use Rattle.history_standing.specs.Stages.{stage, arrival_in, is_at, admitted, is_unadmitted}
use Rattle.poa_history.proofs.TurnTells.{admission_is}
use Rattle.poa_history.specs.Numbers.{below}
use Rattle.core_arrivals.specs.Numbers.{inserted, without}
use Rattle.poa_history.specs.Waiting.{is_waiting}
use Rattle.core_arrivals.specs.Queued.{QueueAgrees}
use Rattle.core_arrivals.specs.declared.queue.Queue.{Queue}
use Rattle.poa_history.proofs.Numbers.{counted}
use Rattle.core_arrivals.proofs.Numbers.{same_below, one_less, one_more, any_kept}
use Rattle.history_standing.proofs.CallsKept.{call_beyond, call_kept}

-- the newest number passes, or not
newest : (p q : ℕ → Bool) (n : ℕ) (b : Bool) → ((k : ℕ) → k < n → q k ≡ p k) → q n ≡ b
    → filter q (below (suc n)) ≡ (if b then filter p (below n) ++ n ∷ [] else filter p (below n))
newest p q n b same is =
    filter-append q (below n) (n ∷ [])
    ∙ (ap₂ (λ xs x. xs ++ cond x (n ∷ []) []) (same_below q p n same) is
    ∙ cond_both b (filter p (below n) ++ n ∷ []) (filter p (below n)) (λ ys. filter p (below n) ++ cond b (n ∷ []) [] ≡ ys)
    (λ yes_. ap (λ x. filter p (below n) ++ cond x (n ∷ []) []) yes_)
    (λ none. ap (λ x. filter p (below n) ++ cond x (n ∷ []) []) none ∙ append-nil (filter p (below n))))

own : {A : Type 0} (n : ℕ) (x y : A) → (if n == n then x else y) ≡ x
own n x y = ap (λ b. if b then x else y) (eq-eqb n n refl)

not_own : {A : Type 0} (k n : ℕ) (x y : A) → k < n → (if k == n then x else y) ≡ y
not_own k n x y less = cond_both (k == n) x y (λ z. z ≡ y) (λ same. absurd (let e : k ≡ n = eqb-true k n same in omega (arith, e, less))) (λ _. refl)

-- those that wait and are of a kind
abbrev waits_as : (Option Call → Bool) → List Entry → ℕ → Bool
waits_as kind h r = is_unadmitted h r && kind (call_of h r)

-- a call arrives
pub arrived : (conn size : ℕ) (call : Call) (past : List Entry) (old new : Queue) → QueueAgrees past old
    → new.unadmitted.items ≡ old.unadmitted.items ++ arrivals past ∷ []
    → new.messages.items ≡ (if is_message (Some call) then old.messages.items ++ arrivals past ∷ [] else old.messages.items)
    → new.lines.items ≡ (if not (is_message (Some call)) then old.lines.items ++ arrivals past ∷ [] else old.lines.items)
    → new.crowded.items ≡ (if nat_le 65536 (length old.messages.items) then old.crowded.items ++ arrivals past ∷ [] else old.crowded.items)
    → QueueAgrees (Arrive conn size call ∷ past) new
arrived conn size call past old new is unadmitted messages lines crowded =
    record {
      unadmitted_are =
          unadmitted
          ∙ (ap (λ xs. xs ++ arrivals past ∷ []) is.unadmitted_are
          ∙ sym (newest (is_unadmitted past) (is_unadmitted past) (arrivals past) true (λ k less. refl) waits));
      messages_are = messages ∙ grown is_message old.messages.items is.messages_are;
      lines_are = lines ∙ grown (λ o. not (is_message o)) old.lines.items is.lines_are;
      crowded_are =
          crowded ∙
          (ap₂ (λ m xs. if nat_le 65536 m then xs ++ arrivals past ∷ [] else xs)
          (ap length is.messages_are ∙ sym (counted (is_waiting past) (arrivals past))) is.crowded_are
          ∙ sym (newest (is_crowded past) (is_crowded (Arrive conn size call ∷ past)) (arrivals past) (nat_le 65536 (waiting_messages past))
          (λ k less. not_own k (arrivals past) (nat_le 65536 (waiting_messages past)) (is_crowded past k) less)
          (own (arrivals past) (nat_le 65536 (waiting_messages past)) (is_crowded past (arrivals past)))));
      later = λ r above. is.later r (omega (arith, above));
    }
  where
    waits : is_unadmitted past (arrivals past) ≡ true
    waits = ap is_none (is.later (arrivals past) (omega arith))

    grown : (kind : Option Call → Bool) (items : List ℕ) → items ≡ filter (waits_as kind past) (below (arrivals past))
        → (if kind (Some call) then items ++ arrivals past ∷ [] else items) ≡ filter (waits_as kind (Arrive conn size call ∷ past))
        (below (suc (arrivals past)))
    grown kind items are =
        ap (λ xs. if kind (Some call) then xs ++ arrivals past ∷ [] else xs) are
        ∙ sym (newest (waits_as kind past) (waits_as kind (Arrive conn size call ∷ past)) (arrivals past) (kind (Some call))
        (λ k less. ap (λ o. is_unadmitted past k && kind o) (call_kept (Arrive conn size call) past k less))
        (ap₂ (λ b o. b && kind o) waits (own (arrivals past) (Some call) (call_of past (arrivals past)))))

last : (b : Bool) → (b && false) ≡ false
last true = refl
last false = refl

first : (b : Bool) → (b && true) ≡ b
first true = refl
first false = refl

-- an arrival is admitted
taken : (k r : ℕ) (v : Verdict) (o : Option Verdict) → is_none (if r == k then Some v else o) ≡ (is_none o && not (k == r))
taken k r v o =
    elim (cases_Bool (r == k)) [
      | inl same ↦ (let at : k == r ≡ true = eq-eqb k r (sym (eqb-true r k same)) in
          ap (λ b. is_none (if b then Some v else o)) same ∙ sym (ap (λ b. is_none o && not b) at ∙ last (is_none o)))
      | inr other ↦ (let apart : k == r ≡ false = false_from_ne_true (k == r) (λ at. true≢false (sym (eq-eqb r k (sym (eqb-true k r at))) ∙ other)) in
          ap (λ b. is_none (if b then Some v else o)) other ∙ sym (ap (λ b. is_none o && not b) apart ∙ first (is_none o)))
    ]

swapped : (a b m : Bool) → ((a && b) && m) ≡ ((a && m) && b)
swapped true true true = refl
swapped true true false = refl
swapped true false true = refl
swapped true false false = refl
swapped false b m = refl

pub admits : (c : Config) (run limit : ℕ) (past : List Entry) (w r : ℕ) (v : Verdict) (old new : Queue) → MayFollow c run limit past (Admit w r v)
    → QueueAgrees past old
    → new.unadmitted.items ≡ without r old.unadmitted.items → new.messages.items ≡ without r old.messages.items → new.lines.items ≡ without r old.lines.items
    → new.crowded.items ≡ old.crowded.items
    → QueueAgrees (Admit w r v ∷ past) new
admits c run limit past w r v old new may is unadmitted messages lines crowded =
    record {
      unadmitted_are =
          unadmitted
          ∙ (ap (without r) is.unadmitted_are ∙ sym
          (one_less (is_unadmitted past) (is_unadmitted (Admit w r v ∷ past)) (arrivals past) r (λ k less. taken k r v (admitted past k))));
      messages_are = messages ∙ (ap (without r) is.messages_are ∙ fewer is_message);
      lines_are = lines ∙ (ap (without r) is.lines_are ∙ fewer (λ o. not (is_message o)));
      crowded_are = crowded ∙ is.crowded_are;
      later = λ k above. cond_both (r == k) (Some v) (admitted past k) (λ o. o ≡ None)
          (λ same. absurd (let e : r ≡ k = eqb-true r k same in let low = (admission_is c run past w r v may).arrived in omega (arith, e, low, above)))
          (λ _. is.later k above);
    }
  where
    fewer : (kind : Option Call → Bool) → without r (filter (waits_as kind past) (below (arrivals past))) ≡ filter (waits_as kind (Admit w r v ∷ past))
        (below (arrivals past))
    fewer kind = sym (one_less (waits_as kind past) (waits_as kind (Admit w r v ∷ past)) (arrivals past) r
        (λ k less. ap (λ b. b && kind (call_of past k)) (taken k r v (admitted past k))
        ∙ swapped (is_none (admitted past k)) (not (k == r)) (kind (call_of past k))))

-- an arrival goes back to its place
pub put_back : (c : Config) (run : ℕ) (past : List Entry) (w n r : ℕ) (old new : Queue) → IsManned c run past → stage past w ≡ Trying r → QueueAgrees past old
    → new.unadmitted.items ≡ inserted r old.unadmitted.items
    → new.messages.items ≡ (if is_message (call_of past r) then inserted r old.messages.items else old.messages.items)
    → new.lines.items ≡ (if not (is_message (call_of past r)) then inserted r old.lines.items else old.lines.items)
    → new.crowded.items ≡ old.crowded.items
    → QueueAgrees (Tried w (Yes n) ∷ past) new
put_back c run past w n r old new manned trying is unadmitted messages lines crowded =
    record {
      unadmitted_are =
          unadmitted
          ∙ (ap (inserted r) is.unadmitted_are ∙ sym
          (one_more (is_unadmitted past) (is_unadmitted (Tried w (Yes n) ∷ past)) (arrivals past) r low (ap is_none by) back
          (λ k less apart. ap is_none (stays k apart))));
      messages_are = messages ∙ (ap (λ xs. if is_message (call_of past r) then inserted r xs else xs) is.messages_are ∙ sym (waiting is_message));
      lines_are = lines ∙ (ap (λ xs. if not (is_message (call_of past r)) then inserted r xs else xs) is.lines_are ∙ sym (waiting (λ o. not (is_message o))));
      crowded_are = crowded ∙ is.crowded_are;
      later = λ k above. cond_both (is_at k (arrival_in (stage past w))) None (admitted past k) (λ o. o ≡ None) (λ _. refl) (λ _. is.later k above);
    }
  where
    by : admitted past r ≡ Some Try
    by = (subst (Holds past (standing c run past)) trying (manned.stages w)).0

    arrived_before : (b : Bool) → nat_lt r (arrivals past) ≡ b → r < arrivals past
    arrived_before true below_ = ltb-true r (arrivals past) below_
    arrived_before false above = absurd (let f : Some Try ≡ None = sym by ∙ is.later r (ltb-false r (arrivals past) above) in cc)

    low : r < arrivals past
    low = arrived_before (nat_lt r (arrivals past)) refl

    at_it : (k : ℕ) → is_at k (arrival_in (stage past w)) ≡ (r == k)
    at_it k = ap (λ b. is_at k (arrival_in b)) trying

    back : is_unadmitted (Tried w (Yes n) ∷ past) r ≡ true
    back = ap (λ b. is_none (if b then None else admitted past r)) (at_it r ∙ eq-eqb r r refl)

    stays : (k : ℕ) → (k ≡ r → ⊥) → (if is_at k (arrival_in (stage past w)) then None else admitted past k) ≡ admitted past k
    stays k apart = ap (λ b. if b then None else admitted past k) (at_it k ∙ false_from_ne_true (r == k) (λ same. apart (sym (eqb-true r k same))))

    waits : (kind : Option Call → Bool) (k : ℕ) → (k ≡ r → ⊥) → waits_as kind (Tried w (Yes n) ∷ past) k ≡ waits_as kind past k
    waits kind k apart = ap (λ o. is_none o && kind (call_of past k)) (stays k apart)

    waiting : (kind : Option Call → Bool) → filter (waits_as kind (Tried w (Yes n) ∷ past)) (below (arrivals past)) ≡
        (if kind (call_of past r) then inserted r (filter (waits_as kind past) (below (arrivals past))) else filter (waits_as kind past)
        (below (arrivals past)))
    waiting kind =
        cond_both (kind (call_of past r)) (inserted r (filter (waits_as kind past) (below (arrivals past))))
        (filter (waits_as kind past) (below (arrivals past))) (λ ys. filter (waits_as kind (Tried w (Yes n) ∷ past)) (below (arrivals past)) ≡ ys)
        (λ passes. one_more (waits_as kind past) (waits_as kind (Tried w (Yes n) ∷ past)) (arrivals past) r low
        (ap (λ o. is_none o && kind (call_of past r)) by) (ap₂ (λ a b. a && b) back passes) (λ k less apart. waits kind k apart))
        (λ fails. same_below (waits_as kind (Tried w (Yes n) ∷ past)) (waits_as kind past) (arrivals past) (λ k less. elim (cases_Bool (k == r)) [
          | inl same ↦ (let at : k ≡ r = eqb-true k r same in
              let none : kind (call_of past k) ≡ false = ap (λ x. kind (call_of past x)) at ∙ fails in
              ap (λ b. is_unadmitted (Tried w (Yes n) ∷ past) k && b) none
              ∙ (last (is_unadmitted (Tried w (Yes n) ∷ past) k) ∙ sym (ap (λ b. is_unadmitted past k && b) none ∙ last (is_unadmitted past k))))
          | inr other ↦ waits kind k (λ at. true≢false (sym (eq-eqb k r at) ∙ other))
        ]))

-- all else leaves it as it is
abbrev pub changes_queue : Entry → Bool
changes_queue (Arrive conn size call) = true
changes_queue (Admit w r v) = true
changes_queue (Tried w (Yes n)) = true
changes_queue e = false

pub kept : (e : Entry) (past : List Entry) (q : Queue) → changes_queue e ≡ false → QueueAgrees past q → QueueAgrees (e ∷ past) q
kept (Arrive conn size call) past q other is = absurd (true≢false other)
kept (Admit w r v) past q other is = absurd (true≢false other)
kept (Tried w (Yes n)) past q other is = absurd (true≢false other)
kept (Tried w No) past q other is =
    record { unadmitted_are = is.unadmitted_are; messages_are = is.messages_are; lines_are = is.lines_are; crowded_are = is.crowded_are; later = is.later }
kept (Tried w Raised) past q other is =
    record { unadmitted_are = is.unadmitted_are; messages_are = is.messages_are; lines_are = is.lines_are; crowded_are = is.crowded_are; later = is.later }
kept (Tried w Dying) past q other is =
    record { unadmitted_are = is.unadmitted_are; messages_are = is.messages_are; lines_are = is.lines_are; crowded_are = is.crowded_are; later = is.later }
kept (Entered conn) past q other is =
    record { unadmitted_are = is.unadmitted_are; messages_are = is.messages_are; lines_are = is.lines_are; crowded_are = is.crowded_are; later = is.later }
kept (Filled conn size) past q other is =
    record { unadmitted_are = is.unadmitted_are; messages_are = is.messages_are; lines_are = is.lines_are; crowded_are = is.crowded_are; later = is.later }
kept (Left conn) past q other is =
    record { unadmitted_are = is.unadmitted_are; messages_are = is.messages_are; lines_are = is.lines_are; crowded_are = is.crowded_are; later = is.later }
kept (Collect conn a) past q other is =
    record { unadmitted_are = is.unadmitted_are; messages_are = is.messages_are; lines_are = is.lines_are; crowded_are = is.crowded_are; later = is.later }
kept (Incarnated w a) past q other is =
    record { unadmitted_are = is.unadmitted_are; messages_are = is.messages_are; lines_are = is.lines_are; crowded_are = is.crowded_are; later = is.later }
kept (Run w) past q other is =
    record { unadmitted_are = is.unadmitted_are; messages_are = is.messages_are; lines_are = is.lines_are; crowded_are = is.crowded_are; later = is.later }
kept (Done w) past q other is =
    record { unadmitted_are = is.unadmitted_are; messages_are = is.messages_are; lines_are = is.lines_are; crowded_are = is.crowded_are; later = is.later }
kept (TakeOut w n x) past q other is =
    record { unadmitted_are = is.unadmitted_are; messages_are = is.messages_are; lines_are = is.lines_are; crowded_are = is.crowded_are; later = is.later }
kept (Etherealized w x y) past q other is =
    record { unadmitted_are = is.unadmitted_are; messages_are = is.messages_are; lines_are = is.lines_are; crowded_are = is.crowded_are; later = is.later }
kept (Abandon w) past q other is =
    record { unadmitted_are = is.unadmitted_are; messages_are = is.messages_are; lines_are = is.lines_are; crowded_are = is.crowded_are; later = is.later }

pub quiet : (e : Entry) → ((conn size : ℕ) (call : Call) → e ≡ Arrive conn size call → ⊥) → ((w r : ℕ) (v : Verdict) → e ≡ Admit w r v → ⊥)
    → ((w : ℕ) (a : Attempt) → e ≡ Tried w a → ⊥) → changes_queue e ≡ false
quiet (Arrive conn size call) a b t = absurd (a conn size call refl)
quiet (Admit w r v) a b t = absurd (b w r v refl)
quiet (Tried w x) a b t = absurd (t w x refl)
quiet (Entered conn) a b t = refl
quiet (Filled conn size) a b t = refl
quiet (Left conn) a b t = refl
quiet (Collect conn x) a b t = refl
quiet (Incarnated w x) a b t = refl
quiet (Run w) a b t = refl
quiet (Done w) a b t = refl
quiet (TakeOut w n x) a b t = refl
quiet (Etherealized w x y) a b t = refl
quiet (Abandon w) a b t = refl

-- what hasn't arrived isn't crowded
crowded_beyond : (h : List Entry) (r : ℕ) → arrivals h ≤ r → is_crowded h r ≡ false
crowded_beyond [] r beyond = refl
crowded_beyond (Arrive conn size call ∷ past) r beyond =
    cond_both (r == arrivals past) (nat_le 65536 (waiting_messages past)) (is_crowded past r) (λ b. b ≡ false)
    (λ same. absurd (let e : r ≡ arrivals past = eqb-true r (arrivals past) same in omega (arith, e, beyond)))
    (λ _. crowded_beyond past r (omega (arith, beyond)))
crowded_beyond (Entered conn ∷ past) r beyond = crowded_beyond past r beyond
crowded_beyond (Filled conn size ∷ past) r beyond = crowded_beyond past r beyond
crowded_beyond (Left conn ∷ past) r beyond = crowded_beyond past r beyond
crowded_beyond (Collect conn a ∷ past) r beyond = crowded_beyond past r beyond
crowded_beyond (Admit w q v ∷ past) r beyond = crowded_beyond past r beyond
crowded_beyond (Tried w a ∷ past) r beyond = crowded_beyond past r beyond
crowded_beyond (Incarnated w a ∷ past) r beyond = crowded_beyond past r beyond
crowded_beyond (Run w ∷ past) r beyond = crowded_beyond past r beyond
crowded_beyond (Done w ∷ past) r beyond = crowded_beyond past r beyond
crowded_beyond (TakeOut w n x ∷ past) r beyond = crowded_beyond past r beyond
crowded_beyond (Etherealized w x y ∷ past) r beyond = crowded_beyond past r beyond
crowded_beyond (Abandon w ∷ past) r beyond = crowded_beyond past r beyond

pub crowded_told : (h : List Entry) (r : ℕ) → list_any (λ x. x == r) (filter (is_crowded h) (below (arrivals h))) ≡ is_crowded h r
crowded_told h r = any_kept (is_crowded h) (arrivals h) r (crowded_beyond h r)

-- and doesn't wait as a request or a locate
pub waiting_beyond : (h : List Entry) (r : ℕ) → arrivals h ≤ r → is_waiting h r ≡ false
waiting_beyond h r beyond = ap (λ o. is_unadmitted h r && is_message o) (call_beyond h r beyond) ∙ last (is_unadmitted h r)

pub waiting_told : (h : List Entry) (r : ℕ) → list_any (λ x. x == r) (filter (is_waiting h) (below (arrivals h))) ≡ is_waiting h r
waiting_told h r = any_kept (is_waiting h) (arrivals h) r (waiting_beyond h r)
