-- The table of verdicts gives a request and a locate only verdicts of their kinds.
use Rattle.std.proofs.Common.{◌≡◌, ℕ, Bool, true, false, not, List, Option, None, Some, if◌then◌else◌, refl, ap, ◌∙◌}
use Rattle.std.proofs.lemmas.Bool.{cond_both}
use Rattle.poa_base.specs.Policies.{is_retain}
use Rattle.poa_base.specs.declared.Endpoint.{Endpoint}
use Rattle.poa_base.specs.declared.ExcName.{ExcName}
use Rattle.poa_base.specs.declared.Verdict.{Verdict}
use Rattle.poa_base.specs.declared.Verdict.TheVariants.{Serve, Preset, Locator, Incarnate, Try, Refuse, Forward, Addressing, Here, Unknown}
use Rattle.poa_base.specs.declared.ManagerState.{ManagerState}
use Rattle.poa_base.specs.declared.ManagerState.TheVariants.{Holding, Active, Discarding, Inactive}
use Rattle.poa_base.specs.declared.Policy.{Policy}
use Rattle.poa_base.specs.declared.Policy.TheVariants.{DefaultServant, ServantManager}
use Rattle.poa_choose.specs.declared.facts.Choice.{Choice}
use Rattle.poa_choose.specs.declared.facts.Choice.TheVariants.{Go, Held}
use Rattle.poa_choose.specs.declared.facts.Facts.{Facts}
use Rattle.poa_choose.specs.declared.facts.KeyFact.{KeyFact}
use Rattle.poa_choose.specs.declared.facts.KeyFact.TheVariants.{Absent, Bad, OtherRun}
use Rattle.poa_choose.specs.declared.facts.Located.{Located}
use Rattle.poa_choose.specs.declared.facts.Located.TheVariants.{Servant, Forward as Elsewhere, Raise, NoRule}
use Rattle.poa_choose.specs.declared.facts.MapFact.{MapFact}
use Rattle.poa_choose.specs.declared.facts.MapFact.TheVariants.{Active as ActiveAs, Busy, Free}
use Rattle.poa_choose.specs.declared.facts.WalkFact.{WalkFact}
use Rattle.poa_choose.specs.declared.facts.WalkFact.TheVariants.{Dying, Missing, Found}
use Rattle.poa_choose.specs.Table.{refuse, serve, is_transient, forward_or, state_rule, located_rows, activator_rows, manager_rows, default_rows, unmade, processing_rows, map_rows, awaits_turn, awaits_main, thread_rows, trial_rows, walk_rows, key_rows, first_row}

-- verdicts on requests
abbrev pub for_request : Verdict → Bool
for_request (Serve n) = true
for_request (Preset name) = true
for_request (Locator name) = true
for_request (Incarnate n) = true
for_request Try = true
for_request (Refuse exception) = true
for_request (Forward endpoint) = true
for_request Addressing = true
for_request v = false

-- verdicts on locates
abbrev pub for_locate : Verdict → Bool
for_locate Try = true
for_locate (Forward endpoint) = true
for_locate Addressing = true
for_locate Here = true
for_locate Unknown = true
for_locate v = false

abbrev pub is_for : Bool → Choice → Bool
is_for locate (Held cause) = true
is_for locate (Go v) = if locate then for_locate v else for_request v

module _ (f : Facts) where
  abbrev Fits : Choice → Type 0
  Fits choice = is_for f.locate choice ≡ true

  by_kind : (u v : Verdict) → for_locate u ≡ true → for_request v ≡ true → Fits (Go (if f.locate then u else v))
  by_kind u v one other =
      cond_both f.locate u v (λ x. Fits (Go x)) (λ locate. ap (λ b. is_for b (Go u)) locate ∙ one) (λ request. ap (λ b. is_for b (Go v)) request ∙ other)

  refused : (name : ExcName) (minor : ℕ) → Fits (refuse f name minor)
  refused name minor = by_kind Unknown (Refuse _) refl refl

  served : (v : Verdict) → for_request v ≡ true → Fits (serve f v)
  served v fits = by_kind Here v refl fits

  -- a verdict on either
  either : (v : Verdict) → for_locate v ≡ true → for_request v ≡ true → Fits (Go v)
  either v one other = by_bool f.locate
    where
      by_bool : (b : Bool) → is_for b (Go v) ≡ true
      by_bool true = one
      by_bool false = other

  forwarded : (entry : Option Endpoint) (other : Choice) → Fits other → Fits (forward_or entry other)
  forwarded None other fits = fits
  forwarded (Some endpoint) other fits = either (Forward endpoint) refl refl

  by_state : (state : ManagerState) (on : Choice) → Fits on → Fits (state_rule f state on)
  by_state Holding on fits = refl
  by_state Active on fits = fits
  by_state Discarding on fits = refused _ _
  by_state Inactive on fits = cond_both (is_transient f.key) _ _ Fits (λ _. refused _ _) (λ _. forwarded f.entry _ (refused _ _))

  by_located : f.locate ≡ false → (l : Located) → Fits (located_rows f l)
  by_located request (Servant name) = ap (λ b. is_for b (Go (Locator name))) request
  by_located request (Elsewhere endpoint) = either (Forward endpoint) refl refl
  by_located request (Raise exception) = ap (λ b. is_for b (Go (Refuse exception))) request
  by_located request NoRule = refused _ _

  here : f.locate ≡ true → Fits (Go Here)
  here locate = ap (λ b. is_for b (Go Here)) locate

  by_activator : Fits (activator_rows f)
  by_activator = cond_both f.locate _ _ Fits here
      (λ request. cond_both f.busy _ _ Fits (λ _. refl) (λ _. ap (λ b. is_for b (Go (Incarnate f.next))) request))

  by_manager : Fits (manager_rows f)
  by_manager = cond_both (not f.rules) _ _ Fits (λ _. refused _ _) (λ _. cond_both (is_retain f.policies.retention) _ _ Fits
      (λ _. by_activator) (λ _. cond_both f.locate _ _ Fits here (λ request. by_located request f.located)))

  by_default : (preset : Option (List ℕ)) → Fits (default_rows f preset)
  by_default None = refused _ _
  by_default (Some name) = served (Preset name) refl

  by_processing : (processing : Policy) → Fits (processing_rows f processing)
  by_processing DefaultServant = by_default f.preset
  by_processing ServantManager = cond_both (unmade f) _ _ Fits (λ _. refused _ _) (λ _. by_manager)
  by_processing _ = refused _ _

  by_map : (slot : MapFact) → Fits (map_rows f slot)
  by_map (ActiveAs activation) = served (Serve activation) refl
  by_map (Busy activation) = refl
  by_map Free = by_processing f.policies.processing

  by_thread : (worker : ℕ) → Fits (thread_rows f worker)
  by_thread worker = cond_both (awaits_turn f) _ _ Fits (λ _. refl) (λ _. cond_both (awaits_main f worker) _ _ Fits (λ _. refl) (λ _.
      cond_both (is_retain f.policies.retention) _ _ Fits (λ _. by_map f.slot) (λ _. by_processing f.policies.processing)))

  by_trial : Fits (trial_rows f)
  by_trial = cond_both f.trial _ _ Fits (λ _. refl) (λ _. cond_both f.tries _ _ Fits (λ _. either Try refl refl) (λ _. forwarded f.entry _ (refused _ _)))

  by_walk : (worker : ℕ) (walk : WalkFact) → Fits (walk_rows f worker walk)
  by_walk worker Dying = refused _ _
  by_walk worker Missing = cond_both (is_transient f.key) _ _ Fits (λ _. refused _ _) (λ _. by_state f.state _ by_trial)
  by_walk worker Found = cond_both f.differs _ _ Fits (λ _. refused _ _) (λ _.
      cond_both f.other_tag _ _ Fits (λ _. refused _ _) (λ _. by_state f.state _ (by_thread worker)))

  by_key : (worker : ℕ) (key : KeyFact) → Fits (key_rows f worker key)
  by_key worker Absent = either Addressing refl refl
  by_key worker Bad = refused _ _
  by_key worker OtherRun = refused _ _
  by_key worker _ = by_walk worker f.walk

  -- whichever row applies
  pub row_fits : (worker : ℕ) → Fits (first_row f worker)
  unfolding first_row
  row_fits worker = cond_both f.crowded _ _ Fits (λ _. refused _ _) (λ _. by_key worker f.key)
