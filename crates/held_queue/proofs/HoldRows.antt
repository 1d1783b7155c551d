-- What the table holds is blocked, and what is blocked the table holds.
use Rattle.std.specs.Prelude.{◌≡◌, ◌==◌, ℕ, Bool, true, false, not, ◌&&◌, if◌then◌else◌, List, Option, Some, None, ◌⊎◌, refl}
use Rattle.std.proofs.Common.{inl, inr, sym, subst, ap, ◌∙◌}
use Rattle.std.proofs.lemmas.Bool.{cond_both, and_parts, and_from, true≢false, not-true, not-false, not_from_false}
use Rattle.poa_base.specs.Policies.{is_main_thread, is_retain, is_single_thread}
use Rattle.poa_base.specs.declared.Endpoint.{Endpoint}
use Rattle.poa_base.specs.declared.ExcName.{ExcName}
use Rattle.poa_base.specs.declared.ExcName.TheVariants.{ObjAdapter, ObjectNotExist, Transient as Transiently}
use Rattle.poa_base.specs.declared.ManagerState.{ManagerState}
use Rattle.poa_base.specs.declared.ManagerState.TheVariants.{Active, Discarding, Holding, Inactive}
use Rattle.poa_base.specs.declared.Policy.{Policy}
use Rattle.poa_base.specs.declared.Policy.TheVariants.{DefaultServant, ServantManager}
use Rattle.poa_base.specs.declared.Cause.{Cause}
use Rattle.poa_base.specs.declared.Cause.TheVariants.{Adapter, Manager as ManagerCause, Trial as TrialCause, Id as IdCause}
use Rattle.poa_base.specs.declared.Verdict.{Verdict}
use Rattle.poa_base.specs.declared.Verdict.TheVariants.{Addressing, Here, Incarnate, Try, Serve, Preset}
use Rattle.poa_base.specs.declared.minors.TheConstants.{ADAPTER_DYING, BAD_KEY, DISCARDED, MANAGER_INACTIVE, NOT_ACTIVE, NO_ADAPTER, NO_SERVANT_MANAGER, OTHER_LIFESPAN, OTHER_TAG, NO_DEFAULT_SERVANT}
use Rattle.poa_choose.specs.Table.{activator_rows, awaits_main, awaits_turn, default_rows, first_row, forward_or, found_rows, inactive_rule, is_transient, key_rows, located_rows, locator_rows, manager_rows, map_rows, missing_rows, object_rows, processing_rows, refuse, serve, state_rule, tag_rows, thread_rows, trial_rows, unmade, walk_rows}
use Rattle.poa_choose.specs.declared.Choice.{Choice}
use Rattle.poa_choose.specs.declared.Choice.TheVariants.{Go, Held}
use Rattle.poa_choose.specs.declared.Facts.{Facts}
use Rattle.poa_choose.specs.declared.KeyFact.{KeyFact}
use Rattle.poa_choose.specs.declared.KeyFact.TheVariants.{Absent, Bad as BadKey, OtherRun, Persistent, Transient}
use Rattle.poa_choose.specs.declared.Located.{Located}
use Rattle.poa_choose.specs.declared.Located.TheVariants.{Forward as ByForward, NoRule, Raise as ByRaise, Servant as ByServant}
use Rattle.poa_choose.specs.declared.MapFact.{MapFact}
use Rattle.poa_choose.specs.declared.MapFact.TheVariants.{Active as ActiveAs, Busy, Free as FreeSlot}
use Rattle.poa_choose.specs.declared.WalkFact.{WalkFact}
use Rattle.poa_choose.specs.declared.WalkFact.TheVariants.{Dying as MeetsDying, Found as Met, Missing as MeetsMissing}
use Rattle.poa_history.specs.Verdicts.{chosen}
use Rattle.held_queue.specs.Blocks.{is_ours, MeetsAdapter, LacksChild, TakesTurn, IsForMain, MeetsBusy, AwaitsChange, Blocks, hold_for}
use Rattle.held_queue.specs.declared.hold.Hold.{Hold}
use Rattle.held_queue.specs.declared.hold.Hold.TheVariants.{Manager, Trial, Turn, Main, Id, Change}

module _ (f : Facts) (cause : Option Cause) where
  -- what a choice that holds tells
  abbrev Tells : Choice → Type 0
  Tells choice = choice ≡ Held cause → Blocks f (hold_for f cause)

  goes : (v : Verdict) → Tells (Go v)
  goes v same = absurd (let e : Go v ≡ Held cause = same in cc)

  holds : (is : Option Cause) → Blocks f (hold_for f is) → Tells (Held is)
  holds is blocks same = (let e : Held is ≡ Held cause = same in let at : is ≡ cause = cc in subst (λ x. Blocks f (hold_for f x)) at blocks)

  refused : (name : ExcName) (minor : ℕ) → Tells (refuse f name minor)
  refused name minor = goes _

  forwarded : (entry : Option Endpoint) (name : ExcName) (minor : ℕ) → Tells (forward_or entry (refuse f name minor))
  forwarded None name minor = refused name minor
  forwarded (Some endpoint) name minor = goes _

  inactive : Tells (inactive_rule f)
  inactive =
      cond_both (is_transient f.key) (refuse f ObjAdapter MANAGER_INACTIVE) (forward_or f.entry (refuse f ObjAdapter MANAGER_INACTIVE)) Tells
      (λ _. refused ObjAdapter MANAGER_INACTIVE) (λ _. forwarded f.entry ObjAdapter MANAGER_INACTIVE)

  through_state : (MeetsAdapter f ⊎ LacksChild f) → (state : ManagerState) → f.state ≡ state → (on : Choice) → (f.state ≡ Active → Tells on)
      → Tells (state_rule f state on)
  through_state meets Holding at on goes_on = holds (Some (ManagerCause f.manager)) (meets, at, refl)
  through_state meets Active at on goes_on = goes_on at
  through_state meets Discarding at on goes_on = refused Transiently DISCARDED
  through_state meets Inactive at on goes_on = inactive

  by_located : (l : Located) → Tells (located_rows f l)
  by_located (ByServant name) = goes _
  by_located (ByForward endpoint) = goes _
  by_located (ByRaise exception) = goes _
  by_located NoRule = refused ObjectNotExist NOT_ACTIVE

  by_default : (preset : Option (List ℕ)) → Tells (default_rows f preset)
  by_default None = refused ObjAdapter NO_DEFAULT_SERVANT
  by_default (Some name) = goes _

  module _ (meets : MeetsAdapter f) (active : f.state ≡ Active) (free : awaits_turn f ≡ false) where
    abbrev IsInactive : Type 0
    IsInactive = (n : ℕ) → f.slot ≡ ActiveAs n → ⊥

    by_activator : (is_retain f.policies.retention ≡ true → IsInactive) → f.policies.processing ≡ ServantManager → unmade f ≡ false → f.rules ≡ true
        → is_retain f.policies.retention ≡ true → Tells (activator_rows f)
    by_activator none managed made ruled retains =
        cond_both f.locate (Go Here) (if f.busy then Held (Some (Adapter f.adapter)) else Go (Incarnate f.next)) Tells (λ _. goes _)
        (λ request. cond_both f.busy (Held (Some (Adapter f.adapter))) (Go (Incarnate f.next)) Tells
        (λ busy. holds (Some (Adapter f.adapter)) (subst (λ b. Blocks f (if b then Turn f.adapter else Change f.adapter)) (sym free)
        (record {
          adapter = meets;
          active = active;
          request = request;
          retains = retains;
          inactive = none retains;
          managed = managed;
          made = made;
          ruled = ruled;
          busy = busy;
          numbered = refl;
        })))
        (λ _. goes _))

    by_manager : (is_retain f.policies.retention ≡ true → IsInactive) → f.policies.processing ≡ ServantManager → unmade f ≡ false → Tells (manager_rows f)
    by_manager none managed made =
        cond_both (not f.rules) (refuse f ObjAdapter NO_SERVANT_MANAGER) (if is_retain f.policies.retention then activator_rows f else locator_rows f) Tells
        (λ _. refused ObjAdapter NO_SERVANT_MANAGER)
        (λ ruled. cond_both (is_retain f.policies.retention) (activator_rows f) (locator_rows f) Tells
        (by_activator none managed made (not-false f.rules ruled))
        (λ _. cond_both f.locate (Go Here) (located_rows f f.located) Tells (λ _. goes _) (λ _. by_located f.located)))

    by_processing : (is_retain f.policies.retention ≡ true → IsInactive) → (p : Policy) → f.policies.processing ≡ p → Tells (processing_rows f p)
    by_processing none DefaultServant at = by_default f.preset
    by_processing none ServantManager at =
        cond_both (unmade f) (refuse f ObjectNotExist NOT_ACTIVE) (manager_rows f) Tells (λ _. refused ObjectNotExist NOT_ACTIVE) (by_manager none at)
    by_processing none _ at = refused ObjectNotExist NOT_ACTIVE

    by_map : is_retain f.policies.retention ≡ true → (slot : MapFact) → f.slot ≡ slot → Tells (map_rows f slot)
    by_map retains (ActiveAs n) at = goes _
    by_map retains (Busy n) at = holds (Some (IdCause f.adapter n)) (record { adapter = meets; active = active; retains = retains; busy = at })
    by_map retains FreeSlot at = by_processing (λ _ n is. (let e : ActiveAs n ≡ FreeSlot = sym is ∙ at in cc)) f.policies.processing refl

    by_object : Tells (object_rows f)
    by_object =
        cond_both (is_retain f.policies.retention) (map_rows f f.slot) (processing_rows f f.policies.processing) Tells (λ retains. by_map retains f.slot refl)
        (λ loose. by_processing (λ retains. absurd (true≢false (sym retains ∙ loose))) f.policies.processing refl)

  by_thread : (worker : ℕ) → MeetsAdapter f → f.state ≡ Active → Tells (thread_rows f worker)
  by_thread worker meets active =
      cond_both (awaits_turn f) (Held (Some (Adapter f.adapter))) (if awaits_main f worker then Held None else object_rows f) Tells
      (λ waits. (let parts = and_parts (not f.locate) (is_single_thread f.policies.thread && f.running) waits in
      let two = and_parts (is_single_thread f.policies.thread) f.running parts.1 in
      holds (Some (Adapter f.adapter)) (subst (λ b. Blocks f (if b then Turn f.adapter else Change f.adapter)) (sym waits)
      (record { adapter = meets; active = active; request = not-true f.locate parts.0; single = two.0; numbered = refl }, two.1))))
      (λ free. cond_both (awaits_main f worker) (Held None) (object_rows f) Tells
      (λ waits. (let parts = and_parts (not f.locate) (is_main_thread f.policies.thread && not (worker == 0)) waits in
      let two = and_parts (is_main_thread f.policies.thread) (not (worker == 0)) parts.1 in
      holds None (record { adapter = meets; active = active; request = not-true f.locate parts.0; main = two.0 })))
      (λ _. by_object meets active free))

  by_trial : LacksChild f → f.state ≡ Active → Tells (trial_rows f)
  by_trial lacks active =
      cond_both f.trial (Held (Some (TrialCause f.adapter))) (if f.tries then Go Try else forward_or f.entry (refuse f ObjectNotExist NO_ADAPTER)) Tells
      (λ trial. holds (Some (TrialCause f.adapter)) (lacks, active, trial, refl))
      (λ _. cond_both f.tries (Go Try) (forward_or f.entry (refuse f ObjectNotExist NO_ADAPTER)) Tells (λ _. goes _)
      (λ _. forwarded f.entry ObjectNotExist NO_ADAPTER))

  module _ (uncrowded : f.crowded ≡ false) (ours : is_ours f.key ≡ true) (worker : ℕ) where
    by_walk : (walk : WalkFact) → f.walk ≡ walk → Tells (walk_rows f worker walk)
    by_walk MeetsDying at = refused Transiently ADAPTER_DYING
    by_walk MeetsMissing at =
        cond_both (is_transient f.key) (refuse f ObjectNotExist OTHER_LIFESPAN) (state_rule f f.state (trial_rows f)) Tells
        (λ _. refused ObjectNotExist OTHER_LIFESPAN)
        (λ lasting. (let lacks : LacksChild f = record { uncrowded = uncrowded; ours = ours; met = at; lasting = lasting } in
        through_state (inr lacks) f.state refl (trial_rows f) (by_trial lacks)))
    by_walk Met at =
        cond_both f.differs (refuse f ObjectNotExist OTHER_LIFESPAN) (tag_rows f worker) Tells
        (λ _. refused ObjectNotExist OTHER_LIFESPAN)
        (λ same. cond_both f.other_tag (refuse f ObjectNotExist OTHER_TAG) (state_rule f f.state (thread_rows f worker)) Tells
        (λ _. refused ObjectNotExist OTHER_TAG)
        (λ own_tag. (let meets : MeetsAdapter f = record { uncrowded = uncrowded; ours = ours; met = at; same = same; own_tag = own_tag } in
        through_state (inl meets) f.state refl (thread_rows f worker) (by_thread worker meets))))

  by_key : f.crowded ≡ false → (worker : ℕ) (key : KeyFact) → f.key ≡ key → Tells (key_rows f worker key)
  by_key uncrowded worker Absent at = goes _
  by_key uncrowded worker BadKey at = refused ObjectNotExist BAD_KEY
  by_key uncrowded worker OtherRun at = refused ObjectNotExist OTHER_LIFESPAN
  by_key uncrowded worker Transient at = by_walk uncrowded (ap is_ours at) worker f.walk refl
  by_key uncrowded worker Persistent at = by_walk uncrowded (ap is_ours at) worker f.walk refl

  pub held_blocks : (worker : ℕ) → first_row f worker ≡ Held cause → Blocks f (hold_for f cause)
  unfolding first_row
  held_blocks worker =
      cond_both f.crowded (refuse f Transiently DISCARDED) (key_rows f worker f.key) Tells (λ _. refused Transiently DISCARDED)
      (λ uncrowded. by_key uncrowded worker f.key refl)

module _ (f : Facts) (worker : ℕ) where
  abbrev Holds : Choice → Type 0
  Holds choice = chosen choice ≡ None

  ours_walks : (key : KeyFact) → is_ours key ≡ true → key_rows f worker key ≡ walk_rows f worker f.walk
  ours_walks Absent ours = absurd (let e : false ≡ true = ours in cc)
  ours_walks BadKey ours = absurd (let e : false ≡ true = ours in cc)
  ours_walks OtherRun ours = absurd (let e : false ≡ true = ours in cc)
  ours_walks Transient ours = refl
  ours_walks Persistent ours = refl

  adapter_row : MeetsAdapter f → first_row f worker ≡ state_rule f f.state (thread_rows f worker)
  unfolding first_row
  adapter_row meets =
      ap (λ b. if b then refuse f Transiently DISCARDED else key_rows f worker f.key) meets.uncrowded
      ∙ (ours_walks f.key meets.ours
      ∙ (ap (walk_rows f worker) meets.met
      ∙ (ap (λ b. if b then refuse f ObjectNotExist OTHER_LIFESPAN else tag_rows f worker) meets.same ∙ ap
      (λ b. if b then refuse f ObjectNotExist OTHER_TAG else state_rule f f.state (thread_rows f worker)) meets.own_tag)))

  child_row : LacksChild f → first_row f worker ≡ state_rule f f.state (trial_rows f)
  unfolding first_row
  child_row lacks =
      ap (λ b. if b then refuse f Transiently DISCARDED else key_rows f worker f.key) lacks.uncrowded
      ∙ (ours_walks f.key lacks.ours
      ∙ (ap (walk_rows f worker) lacks.met ∙ ap (λ b. if b then refuse f ObjectNotExist OTHER_LIFESPAN else state_rule f f.state (trial_rows f)) lacks.lasting))

  -- what the rows of the threads hold, the table holds
  active_row : MeetsAdapter f → f.state ≡ Active → Holds (thread_rows f worker) → Holds (first_row f worker)
  active_row meets active row = ap chosen (adapter_row meets ∙ ap (λ s. state_rule f s (thread_rows f worker)) active) ∙ row

  -- what the map holds, the rows of the threads hold
  object_row : Holds (object_rows f) → Holds (thread_rows f worker)
  object_row row =
      cond_both (awaits_turn f) (Held (Some (Adapter f.adapter))) (if awaits_main f worker then Held None else object_rows f) Holds (λ _. refl)
      (λ _. cond_both (awaits_main f worker) (Held None) (object_rows f) Holds (λ _. refl) (λ _. row))

  map_row : is_retain f.policies.retention ≡ true → Holds (map_rows f f.slot) → Holds (object_rows f)
  map_row retains row = ap (λ b. chosen (if b then map_rows f f.slot else processing_rows f f.policies.processing)) retains ∙ row

  change_row : AwaitsChange f.adapter f → (slot : MapFact) → f.slot ≡ slot → Holds (map_rows f slot)
  change_row waits (ActiveAs n) at = absurd (waits.inactive n at)
  change_row waits (Busy n) at = refl
  change_row waits FreeSlot at =
      ap (λ p. chosen (processing_rows f p)) waits.managed
      ∙ (ap (λ b. chosen (if b then refuse f ObjectNotExist NOT_ACTIVE else manager_rows f)) waits.made
      ∙ (ap (λ b. chosen
      (if not b then refuse f ObjAdapter NO_SERVANT_MANAGER else (if is_retain f.policies.retention then activator_rows f else locator_rows f))) waits.ruled
      ∙ (ap (λ b. chosen (if b then activator_rows f else locator_rows f)) waits.retains
      ∙ (ap (λ b. chosen (if b then Go Here else (if f.busy then Held (Some (Adapter f.adapter)) else Go (Incarnate f.next)))) waits.request
      ∙ ap (λ b. chosen (if b then Held (Some (Adapter f.adapter)) else Go (Incarnate f.next))) waits.busy))))

  blocks_change : (k : ℕ) → AwaitsChange k f → Holds (first_row f worker)
  blocks_change k waits =
      active_row waits.adapter waits.active
      (object_row (map_row waits.retains (change_row (subst (λ x. AwaitsChange x f) (sym waits.numbered) waits) f.slot refl)))

  pub blocks_held : (hold : Hold) → Blocks f hold → (hold ≡ Main → (worker == 0) ≡ false) → Holds (first_row f worker)
  blocks_held (Manager m) (inl meets, holding, numbered) other = ap chosen (adapter_row meets ∙ ap (λ s. state_rule f s (thread_rows f worker)) holding)
  blocks_held (Manager m) (inr lacks, holding, numbered) other = ap chosen (child_row lacks ∙ ap (λ s. state_rule f s (trial_rows f)) holding)
  blocks_held (Trial k) (lacks, active, trial, numbered) other =
      ap chosen (child_row lacks ∙ ap (λ s. state_rule f s (trial_rows f)) active)
      ∙ ap (λ b. chosen
      (if b then Held (Some (TrialCause f.adapter)) else (if f.tries then Go Try else forward_or f.entry (refuse f ObjectNotExist NO_ADAPTER)))) trial
  blocks_held (Turn k) (takes, running) other =
      active_row takes.adapter takes.active
      (ap (λ b. chosen (if b then Held (Some (Adapter f.adapter)) else (if awaits_main f worker then Held None else object_rows f)))
      (and_from (not f.locate) (is_single_thread f.policies.thread && f.running) (not_from_false f.locate takes.request)
      (and_from (is_single_thread f.policies.thread) f.running takes.single running)))
  blocks_held Main waits other =
      active_row waits.adapter waits.active
      (cond_both (awaits_turn f) (Held (Some (Adapter f.adapter))) (if awaits_main f worker then Held None else object_rows f) Holds (λ _. refl)
      (λ _. ap (λ b. chosen (if b then Held None else object_rows f))
      (and_from (not f.locate) (is_main_thread f.policies.thread && not (worker == 0)) (not_from_false f.locate waits.request)
      (and_from (is_main_thread f.policies.thread) (not (worker == 0)) waits.main (not_from_false (worker == 0) (other refl))))))
  blocks_held (Id n) meets other = active_row meets.adapter meets.active (object_row (map_row meets.retains (ap (λ s. chosen (map_rows f s)) meets.busy)))
  blocks_held (Change k) waits other = blocks_change k waits
