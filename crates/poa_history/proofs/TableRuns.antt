-- Where the table of verdicts lets a servant run, or brings one to run.
use Rattle.std.specs.Prelude.{◌≡◌, ℕ, Bool, true, false, not, List, Option, Some, None, ◌⊎◌, refl}
use Rattle.std.proofs.Common.{inl, inr, sym, ap, ◌∙◌}
use Rattle.std.proofs.lemmas.Bool.{cond_both, true≢false}
use Rattle.poa_base.specs.declared.minors.TheConstants.{DISCARDED, ADAPTER_DYING, NO_DEFAULT_SERVANT, NO_SERVANT_MANAGER, NO_ADAPTER, BAD_KEY, OTHER_LIFESPAN, OTHER_TAG, NOT_ACTIVE, MANAGER_INACTIVE}
use Rattle.poa_base.specs.Policies.{is_retain, is_servant_manager}
use Rattle.poa_base.specs.declared.Endpoint.{Endpoint}
use Rattle.poa_base.specs.declared.ExcName.{ExcName}
use Rattle.poa_base.specs.declared.ExcName.TheVariants.{ObjectNotExist, Transient as Transiently, ObjAdapter}
use Rattle.poa_base.specs.declared.ManagerState.{ManagerState}
use Rattle.poa_base.specs.declared.ManagerState.TheVariants.{Holding, Active, Discarding, Inactive}
use Rattle.poa_base.specs.declared.Policy.{Policy}
use Rattle.poa_base.specs.declared.Policy.TheVariants.{DefaultServant, ServantManager}
use Rattle.poa_base.specs.declared.Cause.{Cause}
use Rattle.poa_base.specs.declared.Verdict.{Verdict}
use Rattle.poa_base.specs.declared.Verdict.TheVariants.{Serve, Preset, Locator, Incarnate, Try, Refuse, Forward, Addressing, Here, Unknown}
use Rattle.poa_choose.specs.declared.Choice.{Choice}
use Rattle.poa_choose.specs.declared.Choice.TheVariants.{Go, Held}
use Rattle.poa_choose.specs.declared.Facts.{Facts}
use Rattle.poa_choose.specs.declared.KeyFact.{KeyFact}
use Rattle.poa_choose.specs.declared.KeyFact.TheVariants.{Absent, Bad, OtherRun}
use Rattle.poa_choose.specs.declared.Located.{Located}
use Rattle.poa_choose.specs.declared.Located.TheVariants.{Servant, Forward as Elsewhere, Raise, NoRule}
use Rattle.poa_choose.specs.declared.MapFact.{MapFact}
use Rattle.poa_choose.specs.declared.MapFact.TheVariants.{Active as ActiveAs, Busy, Free}
use Rattle.poa_choose.specs.declared.WalkFact.{WalkFact}
use Rattle.poa_choose.specs.declared.WalkFact.TheVariants.{Dying, Missing, Found}
use Rattle.poa_choose.specs.Table.{refuse, serve, is_transient, forward_or, inactive_rule, state_rule, located_rows, locator_rows, manager_rows, default_rows, unmade, processing_rows, map_rows, object_rows, awaits_turn, awaits_main, thread_rows, trial_rows, walk_rows, key_rows, first_row}

-- a servant runs by it, or is brought to run
abbrev pub is_run : Verdict → Bool
is_run (Serve n) = true
is_run (Preset name) = true
is_run (Locator name) = true
is_run (Incarnate n) = true
is_run v = false

module _ (f : Facts) (v : Verdict) where
  -- an activator is asked: the id is free, and nothing is changing in the adapter
  pub record AsksActivator : Type 0 where
    pub retains : is_retain f.policies.retention ≡ true
    pub manages : is_servant_manager f.policies.processing ≡ true
    pub ruled : f.rules ≡ true
    pub made : unmade f ≡ false
    pub idle : f.busy ≡ false

  -- by which row
  pub data RunsBy : Type 0 where
    serves : (n : ℕ) → f.slot ≡ ActiveAs n → Serve n ≡ v → RunsBy
    presets : (name : List ℕ) → Preset name ≡ v → RunsBy
    locates : (name : List ℕ) → Locator name ≡ v → RunsBy
    incarnates : f.slot ≡ Free → AsksActivator → Incarnate f.next ≡ v → RunsBy

  module _ (runs : is_run v ≡ true) where
    never : {A : Type 0} (u : Verdict) → is_run u ≡ false → Go u ≡ Go v → A
    never u no_way same = absurd (let e : u ≡ v = cc in true≢false (sym runs ∙ (ap is_run (sym e) ∙ no_way)))

    never_held : {A : Type 0} (cause : Option Cause) → Held cause ≡ Go v → A
    never_held cause same = absurd (cc)

    refused : {A : Type 0} (name : ExcName) (minor : ℕ) → refuse f name minor ≡ Go v → A
    refused {A} name minor = cond_both f.locate _ _ (λ u. Go u ≡ Go v → A) (λ _. never Unknown refl) (λ _. never (Refuse _) refl)

    forwarded : {A : Type 0} (entry : Option Endpoint) (name : ExcName) (minor : ℕ) → forward_or entry (refuse f name minor) ≡ Go v → A
    forwarded None name minor same = refused name minor same
    forwarded (Some endpoint) name minor same = never (Forward endpoint) refl same

    -- a request, and no locate, goes to its servant
    served : {A : Type 0} (u : Verdict) → (f.locate ≡ false → u ≡ v → A) → serve f u ≡ Go v → A
    served {A} u then_ = cond_both f.locate _ _ (λ x. Go x ≡ Go v → A) (λ _. never Here refl) (λ request same. then_ request (let e : Go u ≡ Go v = same in cc))

    inactive : {A : Type 0} → inactive_rule f ≡ Go v → A
    inactive {A} =
        cond_both (is_transient f.key) _ _ (λ c. c ≡ Go v → A) (λ _. refused ObjAdapter MANAGER_INACTIVE) (λ _. forwarded f.entry ObjAdapter MANAGER_INACTIVE)

    through_state : {A : Type 0} (state : ManagerState) (on : Choice) → (on ≡ Go v → A) → state_rule f state on ≡ Go v → A
    through_state Holding on then_ same = never_held _ same
    through_state Active on then_ same = then_ same
    through_state Discarding on then_ same = refused Transiently DISCARDED same
    through_state Inactive on then_ same = inactive same

    abbrev Runs : Type 0
    Runs = (f.locate ≡ false) × RunsBy

    by_located : (l : Located) → f.locate ≡ false → located_rows f l ≡ Go v → Runs
    by_located (Servant name) request same = (request, locates name (let e : Go (Locator name) ≡ Go v = same in cc))
    by_located (Elsewhere endpoint) request same = never (Forward endpoint) refl same
    by_located (Raise exception) request same = never (Refuse exception) refl same
    by_located NoRule request same = refused ObjectNotExist NOT_ACTIVE same

    by_locator : locator_rows f ≡ Go v → Runs
    by_locator = cond_both f.locate _ _ (λ c. c ≡ Go v → Runs) (λ _. never Here refl) (by_located f.located)

    by_default : (preset : Option (List ℕ)) → default_rows f preset ≡ Go v → Runs
    by_default None = refused ObjAdapter NO_DEFAULT_SERVANT
    by_default (Some name) = served (Preset name) (λ request same. (request, presets name same))

    by_manager : f.slot ≡ Free ⊎ (is_retain f.policies.retention ≡ false) → is_servant_manager f.policies.processing ≡ true → unmade f ≡ false
        → manager_rows f ≡ Go v → Runs
    by_manager free manages made = cond_both (not f.rules) _ _ (λ c. c ≡ Go v → Runs) (λ _. refused ObjAdapter NO_SERVANT_MANAGER)
        (λ ruled. cond_both (is_retain f.policies.retention) _ _ (λ c. c ≡ Go v → Runs)
        (λ retains. cond_both f.locate _ _ (λ c. c ≡ Go v → Runs) (λ _. never Here refl)
        (λ request. cond_both f.busy _ _ (λ c. c ≡ Go v → Runs) (λ _. never_held _)
        (λ idle same. (
          request,
          incarnates (free_by free retains) (record {
            retains = retains;
            manages = manages;
            ruled = ruled_by f.rules ruled;
            made = made;
            idle = idle;
          }) (let e : Go (Incarnate f.next) ≡ Go v = same in cc),
        ))))
        (λ _. by_locator))
      where
        free_by : f.slot ≡ Free ⊎ (is_retain f.policies.retention ≡ false) → is_retain f.policies.retention ≡ true → f.slot ≡ Free
        free_by (inl is) retains = is
        free_by (inr loose) retains = absurd (true≢false (sym retains ∙ loose))

        ruled_by : (b : Bool) → not b ≡ false → b ≡ true
        ruled_by true e = refl
        ruled_by false e = absurd (let x : true ≡ false = e in cc)

    by_processing : f.slot ≡ Free ⊎ (is_retain f.policies.retention ≡ false) → (p : Policy) → f.policies.processing ≡ p → processing_rows f p ≡ Go v → Runs
    by_processing free DefaultServant at = by_default f.preset
    by_processing free ServantManager at =
        cond_both (unmade f) _ _ (λ c. c ≡ Go v → Runs) (λ _. refused ObjectNotExist NOT_ACTIVE) (λ made. by_manager free (ap is_servant_manager at) made)
    by_processing free _ at = refused ObjectNotExist NOT_ACTIVE

    by_map : (slot : MapFact) → f.slot ≡ slot → map_rows f slot ≡ Go v → Runs
    by_map (ActiveAs n) at = served (Serve n) (λ request same. (request, serves n at same))
    by_map (Busy n) at = never_held _
    by_map Free at = by_processing (inl at) f.policies.processing refl

    by_object : object_rows f ≡ Go v → Runs
    by_object =
        cond_both (is_retain f.policies.retention) _ _ (λ c. c ≡ Go v → Runs) (λ _. by_map f.slot refl)
        (λ loose. by_processing (inr loose) f.policies.processing refl)

    pub record RunsWhere (worker : ℕ) : Type 0 where
      pub found : f.walk ≡ Found
      pub request : f.locate ≡ false
      pub alone : awaits_turn f ≡ false
      pub mine : awaits_main f worker ≡ false
      pub how : RunsBy

    by_thread : (worker : ℕ) → f.walk ≡ Found → thread_rows f worker ≡ Go v → RunsWhere worker
    by_thread worker found = cond_both (awaits_turn f) _ _ (λ c. c ≡ Go v → RunsWhere worker) (λ _. never_held _)
        (λ alone. cond_both (awaits_main f worker) _ _ (λ c. c ≡ Go v → RunsWhere worker) (λ _. never_held _)
        (λ mine same. (let it = by_object same in record { found = found; request = it.0; alone = alone; mine = mine; how = it.1 })))

    no_trial : {A : Type 0} → trial_rows f ≡ Go v → A
    no_trial {A} = cond_both f.trial _ _ (λ c. c ≡ Go v → A) (λ _. never_held _)
        (λ _. cond_both f.tries _ _ (λ c. c ≡ Go v → A) (λ _. never Try refl) (λ _. forwarded f.entry ObjectNotExist NO_ADAPTER))

    by_walk : (worker : ℕ) (walk : WalkFact) → f.walk ≡ walk → walk_rows f worker walk ≡ Go v → RunsWhere worker
    by_walk worker Dying at = refused Transiently ADAPTER_DYING
    by_walk worker Missing at =
        cond_both (is_transient f.key) _ _ (λ c. c ≡ Go v → RunsWhere worker) (λ _. refused ObjectNotExist OTHER_LIFESPAN)
        (λ _. through_state f.state (trial_rows f) no_trial)
    by_walk worker Found at =
        cond_both f.differs _ _ (λ c. c ≡ Go v → RunsWhere worker) (λ _. refused ObjectNotExist OTHER_LIFESPAN)
        (λ _. cond_both f.other_tag _ _ (λ c. c ≡ Go v → RunsWhere worker) (λ _. refused ObjectNotExist OTHER_TAG)
        (λ _. through_state f.state (thread_rows f worker) (by_thread worker at)))

    by_key : (worker : ℕ) (key : KeyFact) → key_rows f worker key ≡ Go v → RunsWhere worker
    by_key worker Absent = never Addressing refl
    by_key worker Bad = refused ObjectNotExist BAD_KEY
    by_key worker OtherRun = refused ObjectNotExist OTHER_LIFESPAN
    by_key worker _ = by_walk worker f.walk refl

    pub runs_where : (worker : ℕ) → first_row f worker ≡ Go v → RunsWhere worker
    unfolding first_row
    runs_where worker = cond_both f.crowded _ _ (λ c. c ≡ Go v → RunsWhere worker) (λ _. refused Transiently DISCARDED) (λ _. by_key worker f.key)
