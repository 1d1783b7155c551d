-- What holds of each choice that a locate may get, holds of every choice for a locate.
use Rattle.std.proofs.Common.{◌≡◌, ℕ, true, false, List, Option, None, Some, not, sym, ◌∙◌}
use Rattle.std.proofs.lemmas.Bool.{cond_both, true≢false}
use Rattle.poa_base.specs.Policies.{is_retain}
use Rattle.poa_base.specs.declared.Endpoint.{Endpoint}
use Rattle.poa_base.specs.declared.ExcName.{ExcName}
use Rattle.poa_base.specs.declared.Verdict.{Verdict}
use Rattle.poa_base.specs.declared.Verdict.TheVariants.{Try, Forward, Addressing, Here, Unknown}
use Rattle.poa_base.specs.declared.ManagerState.{ManagerState}
use Rattle.poa_base.specs.declared.ManagerState.TheVariants.{Holding, Active, Discarding, Inactive}
use Rattle.poa_base.specs.declared.Policy.{Policy}
use Rattle.poa_base.specs.declared.Policy.TheVariants.{DefaultServant, ServantManager}
use Rattle.poa_base.specs.declared.Cause.{Cause}
use Rattle.poa_choose.specs.declared.facts.Choice.{Choice}
use Rattle.poa_choose.specs.declared.facts.Choice.TheVariants.{Go, Held}
use Rattle.poa_choose.specs.declared.facts.Facts.{Facts}
use Rattle.poa_choose.specs.declared.facts.KeyFact.{KeyFact}
use Rattle.poa_choose.specs.declared.facts.KeyFact.TheVariants.{Absent, Bad, OtherRun}
use Rattle.poa_choose.specs.declared.facts.MapFact.{MapFact}
use Rattle.poa_choose.specs.declared.facts.MapFact.TheVariants.{Active as ActiveAs, Busy, Free}
use Rattle.poa_choose.specs.declared.facts.WalkFact.{WalkFact}
use Rattle.poa_choose.specs.declared.facts.WalkFact.TheVariants.{Dying, Missing, Found}
use Rattle.poa_choose.specs.Table.{refuse, serve, is_transient, forward_or, state_rule, manager_rows, default_rows, unmade, processing_rows, map_rows, awaits_turn, awaits_main, thread_rows, trial_rows, walk_rows, key_rows, first_row}

module _ (P : Choice → Type 0) (held : (cause : Option Cause) → P (Held cause)) (forward : (endpoint : Endpoint) → P (Go (Forward endpoint))) (try : P (Go Try))
    (addressing : P (Go Addressing)) (here : P (Go Here)) (unknown : P (Go Unknown)) (f : Facts) (locate : f.locate ≡ true) where
  impossible : {A : Type 0} → f.locate ≡ false → A
  impossible e = absurd (true≢false (sym locate ∙ e))

  refused : (name : ExcName) (minor : ℕ) → P (refuse f name minor)
  refused name minor = cond_both f.locate _ _ (λ v. P (Go v)) (λ _. unknown) impossible

  served : (verdict : Verdict) → P (serve f verdict)
  served verdict = cond_both f.locate _ _ (λ v. P (Go v)) (λ _. here) impossible

  forwarded : (entry : Option Endpoint) (other : Choice) → P other → P (forward_or entry other)
  forwarded None other h = h
  forwarded (Some endpoint) other h = forward endpoint

  by_state : (state : ManagerState) (on : Choice) → P on → P (state_rule f state on)
  by_state Holding on h = held _
  by_state Active on h = h
  by_state Discarding on h = refused _ _
  by_state Inactive on h = cond_both (is_transient f.key) _ _ P (λ _. refused _ _) (λ _. forwarded f.entry _ (refused _ _))

  by_manager : P (manager_rows f)
  by_manager = cond_both (not f.rules) _ _ P (λ _. refused _ _) (λ _. cond_both (is_retain f.policies.retention) _ _ P
      (λ _. cond_both f.locate _ _ P (λ _. here) impossible) (λ _. cond_both f.locate _ _ P (λ _. here) impossible))

  by_default : (preset : Option (List ℕ)) → P (default_rows f preset)
  by_default None = refused _ _
  by_default (Some name) = served _

  by_processing : (processing : Policy) → P (processing_rows f processing)
  by_processing DefaultServant = by_default f.preset
  by_processing ServantManager = cond_both (unmade f) _ _ P (λ _. refused _ _) (λ _. by_manager)
  by_processing _ = refused _ _

  by_map : (slot : MapFact) → P (map_rows f slot)
  by_map (ActiveAs activation) = served _
  by_map (Busy activation) = held _
  by_map Free = by_processing f.policies.processing

  by_thread : (worker : ℕ) → P (thread_rows f worker)
  by_thread worker = cond_both (awaits_turn f) _ _ P (λ _. held _) (λ _. cond_both (awaits_main f worker) _ _ P (λ _. held _) (λ _.
      cond_both (is_retain f.policies.retention) _ _ P (λ _. by_map f.slot) (λ _. by_processing f.policies.processing)))

  by_trial : P (trial_rows f)
  by_trial = cond_both f.trial _ _ P (λ _. held _) (λ _. cond_both f.tries _ _ P (λ _. try) (λ _. forwarded f.entry _ (refused _ _)))

  by_walk : (worker : ℕ) (walk : WalkFact) → P (walk_rows f worker walk)
  by_walk worker Dying = refused _ _
  by_walk worker Missing = cond_both (is_transient f.key) _ _ P (λ _. refused _ _) (λ _. by_state f.state _ by_trial)
  by_walk worker Found = cond_both f.differs _ _ P (λ _. refused _ _) (λ _.
      cond_both f.other_tag _ _ P (λ _. refused _ _) (λ _. by_state f.state _ (by_thread worker)))

  by_key : (worker : ℕ) (key : KeyFact) → P (key_rows f worker key)
  by_key worker Absent = addressing
  by_key worker Bad = refused _ _
  by_key worker OtherRun = refused _ _
  by_key worker _ = by_walk worker f.walk

  pub each_locate : (worker : ℕ) → P (first_row f worker)
  unfolding first_row
  each_locate worker = cond_both f.crowded _ _ P (λ _. refused _ _) (λ _. by_key worker f.key)
