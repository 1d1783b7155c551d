-- An object of which nothing was begun in a run: no call ran on it, and what is stored for it is what was.
use Rattle.std.proofs.Common.{◌∙◌, ap, subst, sym}
use Rattle.std.proofs.lemmas.Bool.{and_parts}
use Rattle.std.specs.Prelude.{◌&&◌, ◌∷◌, ◌≡◌, Bool, List, None, Option, Some, [], false, if◌then◌else◌, refl, true, ℕ}
use Rattle.history_laws.proofs.Keyed.{keyed}
use Rattle.history_laws.specs.Keyed.{Fits, IsKeyed}
use Rattle.history_laws.specs.OneLine.{BringsFresh, calls_on, is_call_on, runs_on}
use Rattle.history_standing.proofs.Finding.{find_in, path_same}
use Rattle.history_standing.proofs.Leading.{bytes_same}
use Rattle.history_standing.specs.Paths.{same_bytes, same_path}
use Rattle.history_standing.specs.Stages.{stage}
use Rattle.history_standing.specs.Standings.{Standing}
use Rattle.history_standing.specs.Templates.{policies_at, retains, uses_servant_manager}
use Rattle.history_standing.specs.Trees.{In}
use Rattle.history_standing.specs.declared.activation.Activation.{Activation}
use Rattle.history_standing.specs.declared.activation.Phase.TheVariants.{Begun, Complete, Void}
use Rattle.history_standing.specs.declared.stage.Stage.{Stage}
use Rattle.history_standing.specs.declared.stage.Stage.TheVariants.{Free, Incarnating, Ran, Removing, Serving, Trying}
use Rattle.poa_base.specs.declared.Config.{Config}
use Rattle.poa_base.specs.declared.Entry.{Entry}
use Rattle.poa_base.specs.declared.Entry.TheVariants.{Abandon, Admit, Arrive, Collect, Done, Entered, Etherealized, Filled, Incarnated, Left, Run, TakeOut, Tried}
use Rattle.poa_base.specs.declared.Key.{Key}
use Rattle.poa_base.specs.declared.Kind.{Kind}
use Rattle.poa_base.specs.declared.Sid.{Sid}
use Rattle.poa_base.specs.declared.State.{State}
use Rattle.poa_base.specs.declared.Verdict.{Verdict}
use Rattle.poa_base.specs.declared.Verdict.TheVariants.{Incarnate, Locator, Preset, Serve}
use Rattle.poa_choose.specs.Laws.{runs}
use Rattle.poa_choose.specs.declared.Choice.TheVariants.{Go}
use Rattle.poa_history.proofs.ActivationsLater.{step_later}
use Rattle.poa_history.proofs.MannedKept.{all_manned}
use Rattle.poa_history.proofs.TableRuns.{is_run}
use Rattle.poa_history.proofs.TurnTells.{run_is}
use Rattle.poa_history.specs.Alone.{IsGivenAlone}
use Rattle.poa_history.specs.Bounds.{IsWithinLimits}
use Rattle.history_standing.specs.Changes.{standing}
use Rattle.poa_history.specs.InFlight.{Holds, IsRunning}
use Rattle.poa_history.specs.Legal.{IsLegal}
use Rattle.poa_history.specs.Sound.{IsGiven}
use Rattle.poa_history.specs.States.{Stored, call_run, fresh_only, is_stored_by, state_of, stored}
use Rattle.poa_history.specs.Turns.{activation_numbered}

module _ (c : Config) (run limit : ℕ) (given : IsGiven c run) (alone : IsGivenAlone c run) (within : IsWithinLimits c limit) (opened : Stored) (kind : Kind)
    (p : List (List ℕ)) (oid : List ℕ) (brings : BringsFresh c p oid kind) where
  -- no activation of the id was begun
  abbrev NoneBegun : List Entry → Type 0
  NoneBegun h = (a : Activation) → In a (standing c run h).activations → a.path ≡ p → a.oid ≡ oid → ⊥

  none_before : (e : Entry) (past : List Entry) → NoneBegun (e ∷ past) → NoneBegun past
  none_before e past none a there on_path on_oid =
      let (b, there', later) = step_later c run past e a there in none b there' (later.path ∙ on_path) (later.oid ∙ on_oid)

  module _ (past : List Entry) (none : NoneBegun past) where
    abbrev s : Standing
    s = standing c run past

    -- what a worker removes is another's
    not_of_id : (a : Activation) → In a s.activations → (same_path a.path p && same_bytes a.oid oid) ≡ true → ⊥
    not_of_id a there is =
        let parts = and_parts (same_path a.path p) (same_bytes a.oid oid) is in
        none a there (path_same a.path p parts.0) (bytes_same a.oid oid parts.1)

    other : (a : Activation) → In a s.activations → (b : Bool) → (same_path a.path p && same_bytes a.oid oid) ≡ b
        → (if b then (elim a.phase as (λ _. Option Sid) [ Complete t ↦ fresh_only t | Begun ↦ None | Void ↦ None ]) else None) ≡ None
    other a there true is = absurd (not_of_id a there is)
    other a there false is = refl

    removed_other : (n : ℕ) (o : Option Activation) → activation_numbered s n ≡ o → (elim o as (λ _. Option Sid) [
      | None ↦ None
      | Some a ↦ if same_path a.path p && same_bytes a.oid oid
          then (elim a.phase as (λ _. Option Sid) [ Complete t ↦ fresh_only t | Begun ↦ None | Void ↦ None ])
          else None
    ]) ≡ None
    removed_other n None found = refl
    removed_other n (Some a) found =
        other a (find_in _ a s.activations found).0 (same_path a.path p && same_bytes a.oid oid) refl

    unstored : (begun : Stage) → is_stored_by s begun p oid ≡ None
    unstored (Removing n) = removed_other n (activation_numbered s n) refl
    unstored Free = refl
    unstored (Trying r) = refl
    unstored (Incarnating r n) = refl
    unstored (Serving r) = refl
    unstored (Ran r) = refl

    -- no call on it runs
    runs_then : (v : Verdict) → runs (Go v) ≡ true → is_run v ≡ true
    runs_then (Serve n) yes_ = refl
    runs_then (Preset n) yes_ = refl
    runs_then (Locator n) yes_ = refl
    runs_then (Incarnate n) yes_ = refl
    runs_then v yes_ = absurd (let f : false ≡ true = yes_ in cc)

    never_fits : (key : Key) (v : Verdict) → key.path ≡ p → key.oid ≡ oid → Fits c s key v → ⊥
    never_fits key (Serve n) at_path at_oid it = none it.it it.there (it.path ∙ at_path) (it.oid ∙ at_oid)
    never_fits key (Incarnate n) at_path at_oid it = none it.it it.there (it.path ∙ at_path) (it.oid ∙ at_oid)
    never_fits key v at_path at_oid unmanaged =
        unmanaged (ap (λ q. retains (policies_at c q)) at_path ∙ brings.kept) (ap (λ q. uses_servant_manager (policies_at c q)) at_path ∙ brings.managed)

    never_on : (r : ℕ) → IsLegal c run limit past → IsRunning past s r → (b : Bool) → runs_on past (Serving r) p oid ≡ b → b ≡ false
    never_on r legal running false is = refl
    never_on r legal running true is =
        let key : IsKeyed c run past r running.verdict =
        keyed c run limit given alone within past legal r running.verdict running.by (runs_then running.verdict running.run) in
        let on : (same_path key.key.path p && same_bytes key.key.oid oid) ≡ true = sym (ap (λ k. is_call_on k p oid) key.has) ∙ is in
        let parts = and_parts (same_path key.key.path p) (same_bytes key.key.oid oid) on in
        absurd (never_fits key.key running.verdict (path_same key.key.path p parts.0) (bytes_same key.key.oid oid parts.1) key.fits)

  pub stored_untouched : (h : List Entry) → NoneBegun h → stored c run opened h p oid ≡ opened p oid
  stored_untouched [] none = refl
  stored_untouched (Etherealized w x y ∷ past) none =
      let before = none_before (Etherealized w x y) past none in
      ap (λ o. elim o as (λ _. Option State) [ Some t ↦ Some (state_of c run opened past t) | None ↦ stored c run opened past p oid ])
      (unstored past before (stage past w))
      ∙ stored_untouched past before
  stored_untouched (Entered conn ∷ past) none = stored_untouched past (none_before (Entered conn) past none)
  stored_untouched (Arrive conn size call ∷ past) none = stored_untouched past (none_before (Arrive conn size call) past none)
  stored_untouched (Filled conn size ∷ past) none = stored_untouched past (none_before (Filled conn size) past none)
  stored_untouched (Left conn ∷ past) none = stored_untouched past (none_before (Left conn) past none)
  stored_untouched (Collect conn a ∷ past) none = stored_untouched past (none_before (Collect conn a) past none)
  stored_untouched (Admit w r v ∷ past) none = stored_untouched past (none_before (Admit w r v) past none)
  stored_untouched (Tried w a ∷ past) none = stored_untouched past (none_before (Tried w a) past none)
  stored_untouched (Incarnated w a ∷ past) none = stored_untouched past (none_before (Incarnated w a) past none)
  stored_untouched (Run w ∷ past) none = stored_untouched past (none_before (Run w) past none)
  stored_untouched (Done w ∷ past) none = stored_untouched past (none_before (Done w) past none)
  stored_untouched (TakeOut w n x ∷ past) none = stored_untouched past (none_before (TakeOut w n x) past none)
  stored_untouched (Abandon w ∷ past) none = stored_untouched past (none_before (Abandon w) past none)

  pub calls_untouched : (h : List Entry) → IsLegal c run limit h → NoneBegun h → calls_on h p oid ≡ []
  calls_untouched [] legal none = refl
  calls_untouched (Run w ∷ past) legal none =
      let before = none_before (Run w) past none in
      let r = run_is c run past w legal.0 in
      let running : IsRunning past (standing c run past) r.0 =
      subst (λ b. Holds past (standing c run past) b) r.1 ((all_manned c run limit past given alone within legal.1).stages w) in
      let off : runs_on past (stage past w) p oid ≡ false =
      ap (λ b. runs_on past b p oid) r.1 ∙ never_on past before r.0 legal.1 running (runs_on past (Serving r.0) p oid) refl in
      ap (λ b. if b then call_run past (stage past w) ∷ calls_on past p oid else calls_on past p oid) off ∙ calls_untouched past legal.1 before
  calls_untouched (Etherealized w x y ∷ past) legal none = calls_untouched past legal.1 (none_before (Etherealized w x y) past none)
  calls_untouched (Entered conn ∷ past) legal none = calls_untouched past legal.1 (none_before (Entered conn) past none)
  calls_untouched (Arrive conn size call ∷ past) legal none = calls_untouched past legal.1 (none_before (Arrive conn size call) past none)
  calls_untouched (Filled conn size ∷ past) legal none = calls_untouched past legal.1 (none_before (Filled conn size) past none)
  calls_untouched (Left conn ∷ past) legal none = calls_untouched past legal.1 (none_before (Left conn) past none)
  calls_untouched (Collect conn a ∷ past) legal none = calls_untouched past legal.1 (none_before (Collect conn a) past none)
  calls_untouched (Admit w r v ∷ past) legal none = calls_untouched past legal.1 (none_before (Admit w r v) past none)
  calls_untouched (Tried w a ∷ past) legal none = calls_untouched past legal.1 (none_before (Tried w a) past none)
  calls_untouched (Incarnated w a ∷ past) legal none = calls_untouched past legal.1 (none_before (Incarnated w a) past none)
  calls_untouched (Done w ∷ past) legal none = calls_untouched past legal.1 (none_before (Done w) past none)
  calls_untouched (TakeOut w n x ∷ past) legal none = calls_untouched past legal.1 (none_before (TakeOut w n x) past none)
  calls_untouched (Abandon w ∷ past) legal none = calls_untouched past legal.1 (none_before (Abandon w) past none)
