-- Where the first worker has no next entry, and no worker has begun anything, none has a next entry.
use Rattle.history_laws.proofs.HeldRows.{is_held, third_false}
use Rattle.history_laws.proofs.Idle.{first_none, given_none, mapped_none}
use Rattle.history_laws.specs.Undone.{AreIdle}
use Rattle.poa_base.specs.Policies.{is_main_thread}
use Rattle.poa_base.specs.declared.Call.{Call}
use Rattle.poa_base.specs.declared.Call.TheVariants.{Line, Locate, Request}
use Rattle.poa_base.specs.declared.Cause.TheVariants.{Adapter, Manager as ManagerCause}
use Rattle.poa_base.specs.declared.Config.{Config}
use Rattle.poa_base.specs.declared.Entry.{Entry}
use Rattle.poa_base.specs.declared.Entry.TheVariants.{Admit, TakeOut}
use Rattle.poa_base.specs.declared.ExcName.TheVariants.{ObjectNotExist, Transient as Transiently}
use Rattle.poa_base.specs.declared.ManagerState.{ManagerState}
use Rattle.poa_base.specs.declared.ManagerState.TheVariants.{Active, Discarding, Holding, Inactive}
use Rattle.poa_base.specs.declared.Verdict.TheVariants.{Addressing}
use Rattle.poa_base.specs.declared.minors.TheConstants.{ADAPTER_DYING, BAD_KEY, DISCARDED, OTHER_LIFESPAN, OTHER_TAG}
use Rattle.poa_choose.specs.Table.{awaits_main, awaits_turn, first_row, inactive_rule, key_rows, missing_rows, object_rows, refuse, state_rule, tag_rows, thread_rows, walk_rows}
use Rattle.poa_choose.specs.declared.Choice.{Choice}
use Rattle.poa_choose.specs.declared.Choice.TheVariants.{Go, Held}
use Rattle.poa_choose.specs.declared.Facts.{Facts}
use Rattle.poa_choose.specs.declared.KeyFact.{KeyFact}
use Rattle.poa_choose.specs.declared.KeyFact.TheVariants.{Absent, Bad as BadKey, OtherRun, Persistent, Transient}
use Rattle.poa_choose.specs.declared.WalkFact.{WalkFact}
use Rattle.poa_choose.specs.declared.WalkFact.TheVariants.{Dying as MeetsDying, Found as MeetsAdapter, Missing as MeetsMissing}
use Rattle.history_standing.specs.Arrivals.{arrivals, call_of}
use Rattle.history_standing.specs.Changes.{standing}
use Rattle.history_standing.specs.Searches.{first_given}
use Rattle.history_standing.specs.Situations.{facts_of}
use Rattle.history_standing.specs.Stages.{is_unadmitted, stage}
use Rattle.poa_history.specs.Turns.{admission, admission_of, is_due, next_of, removal, turn}
use Rattle.poa_history.specs.Verdicts.{chosen, verdict, verdict_on}
use Rattle.history_standing.specs.declared.stage.Stage.TheVariants.{Free}
use Rattle.std.proofs.Common.{◌∙◌, ap, ap₂, arith, sym}
use Rattle.std.proofs.lemmas.Bool.{cond_both, true≢false}
use Rattle.std.specs.Option.{option_or}
use Rattle.std.specs.Prelude.{◌<◌, ◌≡◌, List, None, Option, Some, false, find, if◌then◌else◌, not, option_map, refl, suc, true, zero, ℕ}

module _ (f : Facts) where
  -- what the table holds from the first worker it holds from each
  abbrev HeldFromAll : (ℕ → Choice) → Type 0
  HeldFromAll choices = is_held (choices 0) ≡ true → (w : ℕ) → is_held (choices w) ≡ true

  for_all : (choice : Choice) → HeldFromAll (λ w. choice)
  for_all choice holds w = holds

  by_thread : HeldFromAll (thread_rows f)
  by_thread holds w =
      cond_both (awaits_turn f) (Held (Some (Adapter f.adapter))) (if awaits_main f w then Held None else object_rows f) (λ c. is_held c ≡ true) (λ _. refl)
      (λ free. cond_both (awaits_main f w) (Held None) (object_rows f) (λ c. is_held c ≡ true) (λ _. refl)
      (λ _. cond_both (awaits_main f 0) (Held None) (object_rows f) (λ c. is_held c ≡ true → is_held (object_rows f) ≡ true)
      (λ waits. absurd (true≢false (sym waits ∙ third_false (not f.locate) (is_main_thread f.policies.thread) false refl))) (λ _ is. is)
      (ap (λ b. is_held (if b then Held (Some (Adapter f.adapter)) else if awaits_main f 0 then Held None else object_rows f)) (sym free) ∙ holds)))

  by_state : (on : ℕ → Choice) → HeldFromAll on → (state : ManagerState) → HeldFromAll (λ w. state_rule f state (on w))
  by_state on all Holding = for_all (Held (Some (ManagerCause f.manager)))
  by_state on all Active = all
  by_state on all Discarding = for_all (refuse f Transiently DISCARDED)
  by_state on all Inactive = for_all (inactive_rule f)

  by_tag : HeldFromAll (tag_rows f)
  by_tag =
      elim f.other_tag as (λ b. HeldFromAll (λ w. if b then refuse f ObjectNotExist OTHER_TAG else state_rule f f.state (thread_rows f w)))
      [ true ↦ for_all (refuse f ObjectNotExist OTHER_TAG) | false ↦ by_state (thread_rows f) by_thread f.state ]

  by_walk : (walk : WalkFact) → HeldFromAll (λ w. walk_rows f w walk)
  by_walk MeetsDying = for_all (refuse f Transiently ADAPTER_DYING)
  by_walk MeetsMissing = for_all (missing_rows f)
  by_walk MeetsAdapter =
      elim f.differs as (λ b. HeldFromAll (λ w. if b then refuse f ObjectNotExist OTHER_LIFESPAN else tag_rows f w))
      [ true ↦ for_all (refuse f ObjectNotExist OTHER_LIFESPAN) | false ↦ by_tag ]

  by_key : (key : KeyFact) → HeldFromAll (λ w. key_rows f w key)
  by_key Absent = for_all (Go Addressing)
  by_key BadKey = for_all (refuse f ObjectNotExist BAD_KEY)
  by_key OtherRun = for_all (refuse f ObjectNotExist OTHER_LIFESPAN)
  by_key Transient = by_walk f.walk
  by_key Persistent = by_walk f.walk

  pub held_from_all : is_held (first_row f 0) ≡ true → (w : ℕ) → is_held (first_row f w) ≡ true
  unfolding first_row
  held_from_all =
      elim f.crowded as (λ b. HeldFromAll (λ w. if b then refuse f Transiently DISCARDED else key_rows f w f.key))
      [ true ↦ for_all (refuse f Transiently DISCARDED) | false ↦ by_key f.key ]

held_none : (choice : Choice) → chosen choice ≡ None → is_held choice ≡ true
held_none (Held cause) is = refl
held_none (Go v) is = absurd (let e : Some v ≡ None = is in cc)

none_held : (choice : Choice) → is_held choice ≡ true → chosen choice ≡ None
none_held (Held cause) is = refl
none_held (Go v) is = absurd (let e : false ≡ true = is in cc)

-- where each number below a bound gives nothing, none is given
none_given : {A : Type 0} (give : ℕ → Option A) (k : ℕ) → ((r : ℕ) → r < k → give r ≡ None) → first_given give k ≡ None
none_given give zero none = refl
none_given give (suc k) none = ap₂ (λ x y. option_or x y) (none_given give k (λ r less. none r (omega (arith, less)))) (none k (omega arith))

none_mapped : {A B : Type 0} (f : A → B) (o : Option A) → o ≡ None → option_map f o ≡ None
none_mapped f o is = ap (option_map f) is

module _ (c : Config) (run : ℕ) (h : List Entry) where
  verdict_for_all : (r w : ℕ) → verdict c run h r 0 ≡ None → verdict c run h r w ≡ None
  unfolding verdict
  verdict_for_all r w none = by_call (call_of h r) none
    where
      by_call : (call : Option Call) → verdict_on c run h r 0 call ≡ None → verdict_on c run h r w call ≡ None
      by_call None is = refl
      by_call (Some (Line number command)) is = is
      by_call (Some (Request head target operation body)) is =
          none_held (first_row (facts_of c run h r) w) (held_from_all (facts_of c run h r) (held_none (first_row (facts_of c run h r) 0) is) w)
      by_call (Some (Locate head target)) is =
          none_held (first_row (facts_of c run h r) w) (held_from_all (facts_of c run h r) (held_none (first_row (facts_of c run h r) 0) is) w)

  admission_for_all : (w r : ℕ) → admission_of c run h 0 r ≡ None → admission_of c run h w r ≡ None
  admission_for_all w r none =
      elim (is_unadmitted h r) as (λ b. (if b then option_map (λ v. Admit 0 r v) (verdict c run h r 0) else None) ≡ None
      → (if b then option_map (λ v. Admit w r v) (verdict c run h r w) else None) ≡ None) [
        | true ↦ λ is. none_mapped (λ v. Admit w r v) (verdict c run h r w) (verdict_for_all r w (mapped_none (λ v. Admit 0 r v) (verdict c run h r 0) is))
        | false ↦ λ _. refl
      ] none

  pub idle_by_first : turn c run h 0 ≡ None → ((w : ℕ) → stage h w ≡ Free) → AreIdle c run h
  unfolding turn
  idle_by_first none free w low =
      let both = first_none (removal c (standing c run h) 0) (admission c run h 0) (ap (next_of c run h 0) (sym (free 0)) ∙ none) in
      ap (next_of c run h w) (free w)
      ∙ ap₂ (λ x y. option_or x y)
      (none_mapped (λ a. TakeOut w a.number (not a.quiet)) (find (is_due c (standing c run h)) (standing c run h).activations)
      (mapped_none (λ a. TakeOut 0 a.number (not a.quiet)) (find (is_due c (standing c run h)) (standing c run h).activations) both.0))
      (none_given (admission_of c run h w) (arrivals h) (λ r less. admission_for_all w r (given_none (admission_of c run h 0) (arrivals h) both.1 r less)))
