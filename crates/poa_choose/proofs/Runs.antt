-- No servant runs by the rows before those of an adapter that is found, has the key's tag, and whose manager is ACTIVE.
use Rattle.std.proofs.Common.{◌≡◌, ℕ, Bool, true, false, Option, None, Some, refl, sym, ◌∙◌}
use Rattle.std.proofs.lemmas.Bool.{cond_both, true≢false}
use Rattle.poa_base.specs.declared.minors.TheConstants.{DISCARDED, ADAPTER_DYING, BAD_KEY, OTHER_LIFESPAN, OTHER_TAG}
use Rattle.poa_base.specs.declared.Endpoint.{Endpoint}
use Rattle.poa_base.specs.declared.ExcName.{ExcName}
use Rattle.poa_base.specs.declared.ExcName.TheVariants.{ObjectNotExist, Transient as Transiently}
use Rattle.poa_base.specs.declared.ManagerState.{ManagerState}
use Rattle.poa_base.specs.declared.ManagerState.TheVariants.{Holding, Active, Discarding, Inactive}
use Rattle.poa_choose.specs.declared.facts.Choice.{Choice}
use Rattle.poa_choose.specs.declared.facts.Choice.TheVariants.{Go}
use Rattle.poa_choose.specs.declared.facts.Facts.{Facts}
use Rattle.poa_choose.specs.declared.facts.KeyFact.{KeyFact}
use Rattle.poa_choose.specs.declared.facts.KeyFact.TheVariants.{Absent, Bad, OtherRun}
use Rattle.poa_choose.specs.declared.facts.WalkFact.{WalkFact}
use Rattle.poa_choose.specs.declared.facts.WalkFact.TheVariants.{Dying, Missing, Found}
use Rattle.poa_choose.specs.Laws.{runs}
use Rattle.poa_choose.specs.Table.{refuse, is_transient, forward_or, inactive_rule, state_rule, thread_rows, tag_rows, found_rows, trial_rows, missing_rows, walk_rows, key_rows, first_row}

module _ (f : Facts) where
  refused : (name : ExcName) (minor : ℕ) → runs (refuse f name minor) ≡ false
  refused name minor = cond_both f.locate _ _ (λ v. runs (Go v) ≡ false) (λ _. refl) (λ _. refl)

  forwarded : (entry : Option Endpoint) (other : Choice) → runs other ≡ false → runs (forward_or entry other) ≡ false
  forwarded None other h = h
  forwarded (Some endpoint) other h = refl

  inactive : runs (inactive_rule f) ≡ false
  inactive = cond_both (is_transient f.key) _ _ (λ c. runs c ≡ false) (λ _. refused _ _) (λ _. forwarded f.entry _ (refused _ _))

  no_trial : runs (trial_rows f) ≡ false
  no_trial =
      cond_both f.trial _ _ (λ c. runs c ≡ false) (λ _. refl)
      (λ _. cond_both f.tries _ _ (λ c. runs c ≡ false) (λ _. refl) (λ _. forwarded f.entry _ (refused _ _)))

  no_state : (state : ManagerState) (on : Choice) → runs on ≡ false → runs (state_rule f state on) ≡ false
  no_state Holding on h = refl
  no_state Active on h = h
  no_state Discarding on h = refused _ _
  no_state Inactive on h = inactive

  no_missing : runs (missing_rows f) ≡ false
  no_missing = cond_both (is_transient f.key) _ _ (λ c. runs c ≡ false) (λ _. refused _ _) (λ _. no_state f.state _ no_trial)

  impossible : {A : Type 0} {b : Bool} → b ≡ false → b ≡ true → A
  impossible never runs' = absurd (true≢false (sym runs' ∙ never))

  active_by : (state : ManagerState) (on : Choice) → runs (state_rule f state on) ≡ true → state ≡ Active
  active_by Holding on h = impossible refl h
  active_by Active on h = refl
  active_by Discarding on h = impossible (refused Transiently DISCARDED) h
  active_by Inactive on h = impossible inactive h

  by_tag : (worker : ℕ) → runs (tag_rows f worker) ≡ true → (f.state ≡ Active) × (f.other_tag ≡ false)
  by_tag worker =
      cond_both f.other_tag _ _ (λ c. runs c ≡ true → (f.state ≡ Active) × (f.other_tag ≡ false)) (λ _. impossible (refused ObjectNotExist OTHER_TAG))
      (λ own_tag h. (active_by f.state (thread_rows f worker) h, own_tag))

  by_found : (worker : ℕ) → runs (found_rows f worker) ≡ true → (f.state ≡ Active) × (f.other_tag ≡ false)
  by_found worker =
      cond_both f.differs _ _ (λ c. runs c ≡ true → (f.state ≡ Active) × (f.other_tag ≡ false)) (λ _. impossible (refused ObjectNotExist OTHER_LIFESPAN))
      (λ _. by_tag worker)

  abbrev RunsAt : WalkFact → Type 0
  RunsAt walk = (f.state ≡ Active) × (walk ≡ Found) × (f.other_tag ≡ false)

  by_walk : (worker : ℕ) (walk : WalkFact) → runs (walk_rows f worker walk) ≡ true → RunsAt walk
  by_walk worker Dying h = impossible (refused Transiently ADAPTER_DYING) h
  by_walk worker Missing h = impossible no_missing h
  by_walk worker Found h = (let told = by_found worker h in (told.0, refl, told.1))

  by_key : (worker : ℕ) (key : KeyFact) → runs (key_rows f worker key) ≡ true → RunsAt f.walk
  by_key worker Absent h = impossible refl h
  by_key worker Bad h = impossible (refused ObjectNotExist BAD_KEY) h
  by_key worker OtherRun h = impossible (refused ObjectNotExist OTHER_LIFESPAN) h
  by_key worker _ h = by_walk worker f.walk h

  pub runs_where_active : (worker : ℕ) → runs (first_row f worker) ≡ true → RunsAt f.walk
  unfolding first_row
  runs_where_active worker =
      cond_both f.crowded _ _ (λ c. runs c ≡ true → RunsAt f.walk) (λ _. impossible (refused Transiently DISCARDED))
      (λ _. by_key worker f.key)
