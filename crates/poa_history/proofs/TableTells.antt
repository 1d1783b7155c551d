-- When the table of verdicts lets an adapter activator or a servant activator be asked.
use Rattle.std.specs.Prelude.{◌≡◌, ℕ, Bool, true, false, not, List, Option, Some, None, refl}
use Rattle.std.proofs.Common.{sym, ◌∙◌}
use Rattle.std.proofs.lemmas.Bool.{cond_both, true≢false}
use Rattle.poa_base.specs.declared.minors.TheConstants.{DISCARDED, ADAPTER_DYING, NO_DEFAULT_SERVANT, NO_SERVANT_MANAGER, NO_ADAPTER, BAD_KEY, OTHER_LIFESPAN, OTHER_TAG, NOT_ACTIVE}
use Rattle.poa_base.specs.Policies.{is_retain}
use Rattle.poa_base.specs.declared.Endpoint.{Endpoint}
use Rattle.poa_base.specs.declared.SysExc.{SysExc}
use Rattle.poa_base.specs.declared.ExcName.{ExcName}
use Rattle.poa_base.specs.declared.ExcName.TheVariants.{ObjectNotExist, Transient as Transiently, ObjAdapter}
use Rattle.poa_base.specs.declared.Verdict.{Verdict}
use Rattle.poa_base.specs.declared.Verdict.TheVariants.{Serve, Preset, Locator, Incarnate, Try, Refuse, Forward, Addressing, Here, Unknown}
use Rattle.poa_base.specs.declared.ManagerState.{ManagerState}
use Rattle.poa_base.specs.declared.ManagerState.TheVariants.{Holding, Active, Discarding, Inactive}
use Rattle.poa_base.specs.declared.Policy.{Policy}
use Rattle.poa_base.specs.declared.Policy.TheVariants.{DefaultServant, ServantManager}
use Rattle.poa_base.specs.declared.Cause.{Cause}
use Rattle.poa_choose.specs.declared.Choice.{Choice}
use Rattle.poa_choose.specs.declared.Choice.TheVariants.{Go, Held}
use Rattle.poa_choose.specs.declared.Facts.{Facts}
use Rattle.poa_choose.specs.declared.KeyFact.{KeyFact}
use Rattle.poa_choose.specs.declared.KeyFact.TheVariants.{Absent, Bad, OtherRun}
use Rattle.poa_choose.specs.declared.Located.{Located}
use Rattle.poa_choose.specs.declared.Located.TheVariants.{Servant, Forward as Elsewhere, Raise, NoRule}
use Rattle.poa_choose.specs.declared.MapFact.{MapFact}
use Rattle.poa_choose.specs.declared.MapFact.TheVariants.{Active as ActiveAs, Busy, Free}
use Rattle.poa_choose.specs.declared.WalkFact.{WalkFact}
use Rattle.poa_choose.specs.declared.WalkFact.TheVariants.{Dying, Missing, Found}
use Rattle.poa_choose.specs.Table.{refuse, serve, is_transient, forward_or, inactive_rule, state_rule, located_rows, locator_rows, activator_rows, manager_rows, default_rows, unmade, processing_rows, map_rows, object_rows, awaits_turn, awaits_main, thread_rows, found_rows, trial_rows, missing_rows, walk_rows, key_rows, first_row}

-- a test that passes no choice but those that ask an activator
pub record AsksAlone (P : Choice → Bool) : Type 0 where
  pub no_held : (cause : Option Cause) → P (Held cause) ≡ false
  pub no_refuse : (e : SysExc) → P (Go (Refuse e)) ≡ false
  pub no_unknown : P (Go Unknown) ≡ false
  pub no_forward : (e : Endpoint) → P (Go (Forward e)) ≡ false
  pub no_addressing : P (Go Addressing) ≡ false
  pub no_here : P (Go Here) ≡ false
  pub no_serve : (n : ℕ) → P (Go (Serve n)) ≡ false
  pub no_preset : (s : List ℕ) → P (Go (Preset s)) ≡ false
  pub no_locator : (s : List ℕ) → P (Go (Locator s)) ≡ false

module _ (P : Choice → Bool) (alone : AsksAlone P) (f : Facts) where
  never : {A : Type 0} {b : Bool} → b ≡ false → b ≡ true → A
  never no_way passes = absurd (true≢false (sym passes ∙ no_way))

  refused : (name : ExcName) (minor : ℕ) → P (refuse f name minor) ≡ false
  refused name minor = cond_both f.locate _ _ (λ v. P (Go v) ≡ false) (λ _. alone.no_unknown) (λ _. alone.no_refuse _)

  served : (v : Verdict) → P (Go v) ≡ false → P (serve f v) ≡ false
  served v no_way = cond_both f.locate _ _ (λ u. P (Go u) ≡ false) (λ _. alone.no_here) (λ _. no_way)

  forwarded : (entry : Option Endpoint) (other : Choice) → P other ≡ false → P (forward_or entry other) ≡ false
  forwarded None other no_way = no_way
  forwarded (Some endpoint) other no_way = alone.no_forward endpoint

  inactive : P (inactive_rule f) ≡ false
  inactive = cond_both (is_transient f.key) _ _ (λ c. P c ≡ false) (λ _. refused _ _) (λ _. forwarded f.entry _ (refused _ _))

  -- the manager is ACTIVE, or nobody is asked
  through_state : {A : Type 0} (state : ManagerState) (on : Choice) → (P on ≡ true → A) → P (state_rule f state on) ≡ true → A
  through_state Holding on then_ passes = never (alone.no_held _) passes
  through_state Active on then_ passes = then_ passes
  through_state Discarding on then_ passes = never (refused Transiently DISCARDED) passes
  through_state Inactive on then_ passes = never inactive passes

  located : (l : Located) → P (located_rows f l) ≡ false
  located (Servant name) = alone.no_locator name
  located (Elsewhere endpoint) = alone.no_forward endpoint
  located (Raise exception) = alone.no_refuse exception
  located NoRule = refused ObjectNotExist NOT_ACTIVE

  no_locators : P (locator_rows f) ≡ false
  no_locators = cond_both f.locate _ _ (λ c. P c ≡ false) (λ _. alone.no_here) (λ _. located f.located)

  no_default : (preset : Option (List ℕ)) → P (default_rows f preset) ≡ false
  no_default None = refused ObjAdapter NO_DEFAULT_SERVANT
  no_default (Some name) = served (Preset name) (alone.no_preset name)

  -- the servant activator is asked for an adapter that retains, and where nothing is changing in it
  pub record AsksServant : Type 0 where
    pub retains : is_retain f.policies.retention ≡ true
    pub made : unmade f ≡ false
    pub passes : P (Go (Incarnate f.next)) ≡ true

  by_activator : unmade f ≡ false → is_retain f.policies.retention ≡ true → P (activator_rows f) ≡ true → AsksServant
  by_activator made retains = cond_both f.locate _ _ (λ c. P c ≡ true → AsksServant) (λ _. never alone.no_here)
      (λ _. cond_both f.busy _ _ (λ c. P c ≡ true → AsksServant) (λ _. never (alone.no_held _))
      (λ _ passes. record { retains = retains; made = made; passes = passes }))

  by_manager : unmade f ≡ false → P (manager_rows f) ≡ true → AsksServant
  by_manager made = cond_both (not f.rules) _ _ (λ c. P c ≡ true → AsksServant) (λ _. never (refused ObjAdapter NO_SERVANT_MANAGER))
      (λ _. cond_both (is_retain f.policies.retention) _ _ (λ c. P c ≡ true → AsksServant) (by_activator made) (λ _. never no_locators))

  by_processing : (p : Policy) → P (processing_rows f p) ≡ true → AsksServant
  by_processing DefaultServant = never (no_default f.preset)
  by_processing ServantManager =
      cond_both (unmade f) _ _ (λ c. P c ≡ true → AsksServant) (λ _. never (refused ObjectNotExist NOT_ACTIVE)) (λ made. by_manager made)
  by_processing _ = never (refused ObjectNotExist NOT_ACTIVE)

  by_map : (slot : MapFact) → P (map_rows f slot) ≡ true → (slot ≡ Free) × AsksServant
  by_map (ActiveAs n) passes = never (served (Serve n) (alone.no_serve n)) passes
  by_map (Busy n) passes = never (alone.no_held _) passes
  by_map Free passes = (refl, by_processing f.policies.processing passes)

  retained : (is_retain f.policies.retention ≡ false) → AsksServant → (f.slot ≡ Free) × AsksServant
  retained loose asks = absurd (true≢false (sym asks.retains ∙ loose))

  by_object : P (object_rows f) ≡ true → (f.slot ≡ Free) × AsksServant
  by_object = cond_both (is_retain f.policies.retention) _ _ (λ c. P c ≡ true → (f.slot ≡ Free) × AsksServant)
      (λ _. by_map f.slot) (λ loose passes. retained loose (by_processing f.policies.processing passes))

  by_thread : (worker : ℕ) → P (thread_rows f worker) ≡ true → (f.slot ≡ Free) × AsksServant
  by_thread worker = cond_both (awaits_turn f) _ _ (λ c. P c ≡ true → (f.slot ≡ Free) × AsksServant) (λ _. never (alone.no_held _))
      (λ _. cond_both (awaits_main f worker) _ _ (λ c. P c ≡ true → (f.slot ≡ Free) × AsksServant) (λ _. never (alone.no_held _)) (λ _. by_object))

  by_found : (worker : ℕ) → P (found_rows f worker) ≡ true → (f.slot ≡ Free) × AsksServant
  by_found worker = cond_both f.differs _ _ (λ c. P c ≡ true → (f.slot ≡ Free) × AsksServant) (λ _. never (refused ObjectNotExist OTHER_LIFESPAN))
      (λ _. cond_both f.other_tag _ _ (λ c. P c ≡ true → (f.slot ≡ Free) × AsksServant) (λ _. never (refused ObjectNotExist OTHER_TAG))
      (λ _. through_state f.state (thread_rows f worker) (by_thread worker)))

  -- the adapter activator is asked for a child that isn't tried yet
  by_trial : P (trial_rows f) ≡ true → (f.trial ≡ false) × (P (Go Try) ≡ true)
  by_trial = cond_both f.trial _ _ (λ c. P c ≡ true → (f.trial ≡ false) × (P (Go Try) ≡ true)) (λ _. never (alone.no_held _))
      (λ untried. cond_both f.tries _ _ (λ c. P c ≡ true → (f.trial ≡ false) × (P (Go Try) ≡ true)) (λ _ passes. (untried, passes))
      (λ _. never (forwarded f.entry _ (refused ObjectNotExist NO_ADAPTER))))

  by_missing : P (missing_rows f) ≡ true → (f.trial ≡ false) × (P (Go Try) ≡ true)
  by_missing =
      cond_both (is_transient f.key) _ _ (λ c. P c ≡ true → (f.trial ≡ false) × (P (Go Try) ≡ true)) (λ _. never (refused ObjectNotExist OTHER_LIFESPAN))
      (λ _. through_state f.state (trial_rows f) by_trial)

  pub data Asks : Type 0 where
    servant : f.walk ≡ Found → f.slot ≡ Free → AsksServant → Asks
    adapter : f.walk ≡ Missing → f.trial ≡ false → P (Go Try) ≡ true → Asks

  by_walk : (worker : ℕ) (walk : WalkFact) → f.walk ≡ walk → P (walk_rows f worker walk) ≡ true → Asks
  by_walk worker Dying is passes = never (refused Transiently ADAPTER_DYING) passes
  by_walk worker Missing is passes = (let told = by_missing passes in adapter is told.0 told.1)
  by_walk worker Found is passes = (let told = by_found worker passes in servant is told.0 told.1)

  by_key : (worker : ℕ) (key : KeyFact) → P (key_rows f worker key) ≡ true → Asks
  by_key worker Absent passes = never alone.no_addressing passes
  by_key worker Bad passes = never (refused ObjectNotExist BAD_KEY) passes
  by_key worker OtherRun passes = never (refused ObjectNotExist OTHER_LIFESPAN) passes
  by_key worker _ passes = by_walk worker f.walk refl passes

  pub asked : (worker : ℕ) → P (first_row f worker) ≡ true → Asks
  unfolding first_row
  asked worker = cond_both f.crowded _ _ (λ c. P c ≡ true → Asks) (λ _. never (refused Transiently DISCARDED)) (λ _. by_key worker f.key)
