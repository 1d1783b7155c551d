-- A servant that the table of verdicts names is the default servant that was told, or the one that was located.
use Rattle.std.specs.Prelude.{◌≡◌, ℕ, not, List, Option, Some, None, refl}
use Rattle.std.proofs.lemmas.Bool.{cond_both}
use Rattle.poa_base.specs.declared.minors.TheConstants.{DISCARDED, ADAPTER_DYING, NO_DEFAULT_SERVANT, NO_SERVANT_MANAGER, NO_ADAPTER, BAD_KEY, OTHER_LIFESPAN, OTHER_TAG, NOT_ACTIVE, MANAGER_INACTIVE}
use Rattle.poa_base.specs.Policies.{is_retain}
use Rattle.poa_base.specs.declared.Endpoint.{Endpoint}
use Rattle.poa_base.specs.declared.ExcName.{ExcName}
use Rattle.poa_base.specs.declared.ExcName.TheVariants.{ObjectNotExist, Transient as Transiently, ObjAdapter}
use Rattle.poa_base.specs.declared.ManagerState.{ManagerState}
use Rattle.poa_base.specs.declared.ManagerState.TheVariants.{Holding, Active, Discarding, Inactive}
use Rattle.poa_base.specs.declared.Policy.{Policy}
use Rattle.poa_base.specs.declared.Policy.TheVariants.{DefaultServant, ServantManager}
use Rattle.poa_base.specs.declared.Verdict.TheVariants.{Preset, Locator}
use Rattle.poa_choose.specs.declared.Choice.{Choice}
use Rattle.poa_choose.specs.declared.Choice.TheVariants.{Go}
use Rattle.poa_choose.specs.declared.Facts.{Facts}
use Rattle.poa_choose.specs.declared.KeyFact.{KeyFact}
use Rattle.poa_choose.specs.declared.KeyFact.TheVariants.{Absent, Bad, OtherRun, Transient, Persistent}
use Rattle.poa_choose.specs.declared.Located.{Located}
use Rattle.poa_choose.specs.declared.Located.TheVariants.{Servant, Forward as Elsewhere, Raise, NoRule}
use Rattle.poa_choose.specs.declared.MapFact.{MapFact}
use Rattle.poa_choose.specs.declared.MapFact.TheVariants.{Active as ActiveAs, Busy, Free}
use Rattle.poa_choose.specs.declared.WalkFact.{WalkFact}
use Rattle.poa_choose.specs.declared.WalkFact.TheVariants.{Dying, Missing, Found}
use Rattle.poa_choose.specs.Table.{refuse, is_transient, forward_or, inactive_rule, state_rule, located_rows, locator_rows, activator_rows, manager_rows, default_rows, unmade, processing_rows, map_rows, object_rows, awaits_turn, awaits_main, thread_rows, tag_rows, found_rows, trial_rows, missing_rows, walk_rows, key_rows, first_row}

-- the name is one that the facts tell
abbrev pub IsTold : Facts → Choice → Type 0
IsTold f (Go (Preset name)) = f.preset ≡ Some name
IsTold f (Go (Locator name)) = f.located ≡ Servant name
IsTold f choice = Unit {0}

module _ (f : Facts) where
  abbrev Told : Choice → Type 0
  Told choice = IsTold f choice

  refused : (name : ExcName) (minor : ℕ) → Told (refuse f name minor)
  refused name minor = cond_both f.locate _ _ (λ u. Told (Go u)) (λ _. tt) (λ _. tt)

  forwarded : (entry : Option Endpoint) (other : Choice) → Told other → Told (forward_or entry other)
  forwarded None other told = told
  forwarded (Some endpoint) other told = tt

  inactive : Told (inactive_rule f)
  inactive = cond_both (is_transient f.key) _ _ Told (λ _. refused ObjAdapter MANAGER_INACTIVE) (λ _. forwarded f.entry _ (refused ObjAdapter MANAGER_INACTIVE))

  by_state : (state : ManagerState) (on : Choice) → Told on → Told (state_rule f state on)
  by_state Holding on told = tt
  by_state Active on told = told
  by_state Discarding on told = refused Transiently DISCARDED
  by_state Inactive on told = inactive

  by_located : (l : Located) → f.located ≡ l → Told (located_rows f l)
  by_located (Servant name) is = is
  by_located (Elsewhere endpoint) is = tt
  by_located (Raise exception) is = tt
  by_located NoRule is = refused ObjectNotExist NOT_ACTIVE

  by_locator : Told (locator_rows f)
  by_locator = cond_both f.locate _ _ Told (λ _. tt) (λ _. by_located f.located refl)

  by_activator : Told (activator_rows f)
  by_activator = cond_both f.locate _ _ Told (λ _. tt) (λ _. cond_both f.busy _ _ Told (λ _. tt) (λ _. tt))

  by_manager : Told (manager_rows f)
  by_manager = cond_both (not f.rules) _ _ Told (λ _. refused ObjAdapter NO_SERVANT_MANAGER)
      (λ _. cond_both (is_retain f.policies.retention) _ _ Told (λ _. by_activator) (λ _. by_locator))

  by_default : (preset : Option (List ℕ)) → f.preset ≡ preset → Told (default_rows f preset)
  by_default None is = refused ObjAdapter NO_DEFAULT_SERVANT
  by_default (Some name) is = cond_both f.locate _ _ (λ u. Told (Go u)) (λ _. tt) (λ _. is)

  by_processing : (p : Policy) → Told (processing_rows f p)
  by_processing DefaultServant = by_default f.preset refl
  by_processing ServantManager = cond_both (unmade f) _ _ Told (λ _. refused ObjectNotExist NOT_ACTIVE) (λ _. by_manager)
  by_processing _ = refused ObjectNotExist NOT_ACTIVE

  by_map : (slot : MapFact) → Told (map_rows f slot)
  by_map (ActiveAs n) = cond_both f.locate _ _ (λ u. Told (Go u)) (λ _. tt) (λ _. tt)
  by_map (Busy n) = tt
  by_map Free = by_processing f.policies.processing

  by_object : Told (object_rows f)
  by_object = cond_both (is_retain f.policies.retention) _ _ Told (λ _. by_map f.slot) (λ _. by_processing f.policies.processing)

  by_thread : (worker : ℕ) → Told (thread_rows f worker)
  by_thread worker = cond_both (awaits_turn f) _ _ Told (λ _. tt) (λ _. cond_both (awaits_main f worker) _ _ Told (λ _. tt) (λ _. by_object))

  by_tag : (worker : ℕ) → Told (tag_rows f worker)
  by_tag worker = cond_both f.other_tag _ _ Told (λ _. refused ObjectNotExist OTHER_TAG) (λ _. by_state f.state (thread_rows f worker) (by_thread worker))

  by_found : (worker : ℕ) → Told (found_rows f worker)
  by_found worker = cond_both f.differs _ _ Told (λ _. refused ObjectNotExist OTHER_LIFESPAN) (λ _. by_tag worker)

  by_trial : Told (trial_rows f)
  by_trial = cond_both f.trial _ _ Told (λ _. tt) (λ _. cond_both f.tries _ _ Told (λ _. tt) (λ _. forwarded f.entry _ (refused ObjectNotExist NO_ADAPTER)))

  by_missing : Told (missing_rows f)
  by_missing = cond_both (is_transient f.key) _ _ Told (λ _. refused ObjectNotExist OTHER_LIFESPAN) (λ _. by_state f.state (trial_rows f) by_trial)

  by_walk : (worker : ℕ) (walk : WalkFact) → Told (walk_rows f worker walk)
  by_walk worker Dying = refused Transiently ADAPTER_DYING
  by_walk worker Missing = by_missing
  by_walk worker Found = by_found worker

  by_key : (worker : ℕ) (key : KeyFact) → Told (key_rows f worker key)
  by_key worker Absent = tt
  by_key worker Bad = refused ObjectNotExist BAD_KEY
  by_key worker OtherRun = refused ObjectNotExist OTHER_LIFESPAN
  by_key worker Transient = by_walk worker f.walk
  by_key worker Persistent = by_walk worker f.walk

  pub names_told : (worker : ℕ) → IsTold f (first_row f worker)
  unfolding first_row
  names_told worker = cond_both f.crowded _ _ Told (λ _. refused Transiently DISCARDED) (λ _. by_key worker f.key)
