-- Where an adapter keeps its objects and has a servant manager, no default servant and no locator's servant runs.
use Rattle.poa_base.specs.Policies.{is_retain, is_servant_manager}
use Rattle.poa_base.specs.declared.Cause.TheVariants.{Adapter, Trial}
use Rattle.poa_base.specs.declared.Endpoint.{Endpoint}
use Rattle.poa_base.specs.declared.ExcName.{ExcName}
use Rattle.poa_base.specs.declared.ExcName.TheVariants.{ObjAdapter, ObjectNotExist, Transient as Transiently}
use Rattle.poa_base.specs.declared.ManagerState.{ManagerState}
use Rattle.poa_base.specs.declared.ManagerState.TheVariants.{Active, Discarding, Holding, Inactive}
use Rattle.poa_base.specs.declared.Policy.{Policy}
use Rattle.poa_base.specs.declared.Policy.TheVariants.{DefaultServant, ServantManager}
use Rattle.poa_base.specs.declared.Verdict.TheVariants.{Here, Incarnate, Locator, Preset, Refuse, Serve, Try, Unknown}
use Rattle.poa_base.specs.declared.minors.TheConstants.{ADAPTER_DYING, BAD_KEY, DISCARDED, MANAGER_INACTIVE, NOT_ACTIVE, NO_ADAPTER, NO_SERVANT_MANAGER, OTHER_LIFESPAN, OTHER_TAG}
use Rattle.poa_choose.specs.Table.{activator_rows, awaits_main, awaits_turn, first_row, forward_or, inactive_rule, is_transient, key_rows, locator_rows, manager_rows, map_rows, object_rows, processing_rows, refuse, state_rule, tag_rows, thread_rows, trial_rows, unmade, walk_rows}
use Rattle.poa_choose.specs.declared.Choice.{Choice}
use Rattle.poa_choose.specs.declared.Choice.TheVariants.{Go, Held}
use Rattle.poa_choose.specs.declared.Facts.{Facts}
use Rattle.poa_choose.specs.declared.KeyFact.{KeyFact}
use Rattle.poa_choose.specs.declared.KeyFact.TheVariants.{Absent, Bad as BadKey, OtherRun, Persistent, Transient}
use Rattle.poa_choose.specs.declared.MapFact.{MapFact}
use Rattle.poa_choose.specs.declared.MapFact.TheVariants.{Active as ActiveAs, Busy, Free as FreeSlot}
use Rattle.poa_choose.specs.declared.WalkFact.{WalkFact}
use Rattle.poa_choose.specs.declared.WalkFact.TheVariants.{Dying as MeetsDying, Found as MeetsAdapter, Missing as MeetsMissing}
use Rattle.std.proofs.Common.{◌∙◌, sym}
use Rattle.std.proofs.lemmas.Bool.{cond_both, true≢false}
use Rattle.std.specs.Prelude.{◌≡◌, Bool, None, Option, Some, false, if◌then◌else◌, not, refl, true, ℕ}
use Rattle.poa_base.specs.declared.Completion.TheVariants.{No as NotCompleted}

-- a default servant or a locator's
abbrev pub is_loose : Choice → Bool
is_loose (Go (Preset name)) = true
is_loose (Go (Locator name)) = true
is_loose choice = false

module _ (f : Facts) (retains_ : is_retain f.policies.retention ≡ true) (manages : is_servant_manager f.policies.processing ≡ true) where
  abbrev Ties : Choice → Type 0
  Ties choice = is_loose choice ≡ false

  refused : (name : ExcName) (minor : ℕ) → Ties (refuse f name minor)
  refused name minor =
      cond_both f.locate Unknown (Refuse (record { name = name; minor = minor; done = NotCompleted })) (λ v. Ties (Go v)) (λ _. refl) (λ _. refl)

  forwarded : (entry : Option Endpoint) (name : ExcName) (minor : ℕ) → Ties (forward_or entry (refuse f name minor))
  forwarded None name minor = refused name minor
  forwarded (Some endpoint) name minor = refl

  inactive : Ties (inactive_rule f)
  inactive =
      cond_both (is_transient f.key) (refuse f ObjAdapter MANAGER_INACTIVE) (forward_or f.entry (refuse f ObjAdapter MANAGER_INACTIVE)) Ties
      (λ _. refused ObjAdapter MANAGER_INACTIVE) (λ _. forwarded f.entry ObjAdapter MANAGER_INACTIVE)

  by_state : (state : ManagerState) (on : Choice) → Ties on → Ties (state_rule f state on)
  by_state Holding on ties = refl
  by_state Active on ties = ties
  by_state Discarding on ties = refused Transiently DISCARDED
  by_state Inactive on ties = inactive

  by_activator : Ties (activator_rows f)
  by_activator =
      cond_both f.locate (Go Here) (if f.busy then Held (Some (Adapter f.adapter)) else Go (Incarnate f.next)) Ties (λ _. refl)
      (λ _. cond_both f.busy (Held (Some (Adapter f.adapter))) (Go (Incarnate f.next)) Ties (λ _. refl) (λ _. refl))

  by_manager : Ties (manager_rows f)
  by_manager =
      cond_both (not f.rules) (refuse f ObjAdapter NO_SERVANT_MANAGER) (if is_retain f.policies.retention then activator_rows f else locator_rows f) Ties
      (λ _. refused ObjAdapter NO_SERVANT_MANAGER)
      (λ _. cond_both (is_retain f.policies.retention) (activator_rows f) (locator_rows f) Ties (λ _. by_activator)
      (λ loose. absurd (true≢false (sym retains_ ∙ loose))))

  by_processing : (p : Policy) → is_servant_manager p ≡ true → Ties (processing_rows f p)
  by_processing DefaultServant is = absurd (let e : false ≡ true = is in cc)
  by_processing ServantManager is =
      cond_both (unmade f) (refuse f ObjectNotExist NOT_ACTIVE) (manager_rows f) Ties (λ _. refused ObjectNotExist NOT_ACTIVE) (λ _. by_manager)
  by_processing _ is = refused ObjectNotExist NOT_ACTIVE

  by_map : (slot : MapFact) → Ties (map_rows f slot)
  by_map (ActiveAs n) = cond_both f.locate Here (Serve n) (λ v. Ties (Go v)) (λ _. refl) (λ _. refl)
  by_map (Busy n) = refl
  by_map FreeSlot = by_processing f.policies.processing manages

  by_object : Ties (object_rows f)
  by_object =
      cond_both (is_retain f.policies.retention) (map_rows f f.slot) (processing_rows f f.policies.processing) Ties (λ _. by_map f.slot)
      (λ loose. absurd (true≢false (sym retains_ ∙ loose)))

  by_thread : (w : ℕ) → Ties (thread_rows f w)
  by_thread w =
      cond_both (awaits_turn f) (Held (Some (Adapter f.adapter))) (if awaits_main f w then Held None else object_rows f) Ties (λ _. refl)
      (λ _. cond_both (awaits_main f w) (Held None) (object_rows f) Ties (λ _. refl) (λ _. by_object))

  by_trial : Ties (trial_rows f)
  by_trial =
      cond_both f.trial (Held (Some (Trial f.adapter))) (if f.tries then Go Try else forward_or f.entry (refuse f ObjectNotExist NO_ADAPTER)) Ties (λ _. refl)
      (λ _. cond_both f.tries (Go Try) (forward_or f.entry (refuse f ObjectNotExist NO_ADAPTER)) Ties (λ _. refl)
      (λ _. forwarded f.entry ObjectNotExist NO_ADAPTER))

  by_tag : (w : ℕ) → Ties (tag_rows f w)
  by_tag w =
      cond_both f.other_tag (refuse f ObjectNotExist OTHER_TAG) (state_rule f f.state (thread_rows f w)) Ties (λ _. refused ObjectNotExist OTHER_TAG)
      (λ _. by_state f.state (thread_rows f w) (by_thread w))

  by_walk : (w : ℕ) (walk : WalkFact) → Ties (walk_rows f w walk)
  by_walk w MeetsDying = refused Transiently ADAPTER_DYING
  by_walk w MeetsMissing =
      cond_both (is_transient f.key) (refuse f ObjectNotExist OTHER_LIFESPAN) (state_rule f f.state (trial_rows f)) Ties
      (λ _. refused ObjectNotExist OTHER_LIFESPAN) (λ _. by_state f.state (trial_rows f) by_trial)
  by_walk w MeetsAdapter =
      cond_both f.differs (refuse f ObjectNotExist OTHER_LIFESPAN) (tag_rows f w) Ties (λ _. refused ObjectNotExist OTHER_LIFESPAN) (λ _. by_tag w)

  by_key : (w : ℕ) (key : KeyFact) → Ties (key_rows f w key)
  by_key w Absent = refl
  by_key w BadKey = refused ObjectNotExist BAD_KEY
  by_key w OtherRun = refused ObjectNotExist OTHER_LIFESPAN
  by_key w Transient = by_walk w f.walk
  by_key w Persistent = by_walk w f.walk

  pub ties : (w : ℕ) → Ties (first_row f w)
  unfolding first_row
  ties w = cond_both f.crowded (refuse f Transiently DISCARDED) (key_rows f w f.key) Ties (λ _. refused Transiently DISCARDED) (λ _. by_key w f.key)
