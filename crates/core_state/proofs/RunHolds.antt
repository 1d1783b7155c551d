-- A servant that runs acts, and then the states are those of the longer history.
use Rattle.std.specs.Prelude.{◌≡◌, ℕ, true, if◌then◌else◌, List, ◌∷◌, Option, Some, None, option_map, unwrap_or, refl}
use Rattle.std.proofs.Common.{sym, ap, ◌∙◌}
use Rattle.std.proofs.lemmas.Bool.{true≢false, false_from_ne_true}
use Rattle.poa_base.specs.declared.Config.{Config}
use Rattle.poa_base.specs.declared.Call.{Call}
use Rattle.poa_base.specs.declared.State.TheVariants.{Fault}
use Rattle.poa_base.specs.declared.Sid.{Sid}
use Rattle.poa_base.specs.declared.Sid.TheVariants.{Named as NamedServant, Fresh as FreshServant}
use Rattle.poa_base.specs.declared.Entry.{Entry}
use Rattle.poa_base.specs.declared.Entry.TheVariants.{Run}
use Rattle.poa_base.specs.declared.Verdict.{Verdict}
use Rattle.poa_base.specs.declared.Verdict.TheVariants.{Serve, Preset, Locator, Incarnate, Try, Refuse, Forward, Addressing, Here, Unknown, Answer, Wait}
use Rattle.history_standing.specs.declared.activation.Phase.{Phase}
use Rattle.history_standing.specs.declared.activation.Phase.TheVariants.{Begun, Complete, Void}
use Rattle.history_standing.specs.declared.stage.Stage.{Stage}
use Rattle.history_standing.specs.declared.stage.Stage.TheVariants.{Free, Trying, Incarnating, Serving, Ran, Removing}
use Rattle.poa_history.specs.Alone.{IsGivenAlone}
use Rattle.poa_history.specs.Bounds.{IsWithinLimits}
use Rattle.history_standing.specs.Changes.{standing}
use Rattle.poa_history.specs.InFlight.{named}
use Rattle.poa_history.specs.Legal.{IsLegal}
use Rattle.poa_history.specs.Lifetime.{IsServable}
use Rattle.poa_history.specs.Sound.{IsGiven, IsSound}
use Rattle.history_standing.specs.Stages.{stage, admitted}
use Rattle.history_standing.specs.Standings.{Standing}
use Rattle.poa_history.specs.States.{Stored, acted, call_run, servant_run, servant_by, servant_named, servant_of_activation, state_of}
use Rattle.history_standing.specs.Templates.{servant_number}
use Rattle.poa_history.specs.Turns.{activation_numbered}
use Rattle.poa_history.proofs.AloneKept.{stands_alone}
use Rattle.poa_history.proofs.LegalSound.{legal_sound}
use Rattle.poa_history.proofs.LivesKept.{has_lifetime}
use Rattle.poa_history.proofs.MannedKept.{all_manned}
use Rattle.core_state.specs.Holds.{ServantsAgree, is_fresh, is_kept}
use Rattle.core_state.specs.Kept.{Kept}
use Rattle.core_state.specs.Steps.{IsActed, after_run, outcome_in}
use Rattle.core_state.proofs.FreshFrom.{found_activation, kept_by, keeps_from}
use Rattle.core_state.proofs.QuietHolds.{changed_holds}

not_named : (c : Config) (name : List ℕ) (n : ℕ) → servant_named c name ≡ Some (FreshServant n) → ⊥
not_named c name n =
    elim (servant_number c name) as (λ o. (elim o [ Some k ↦ Some (NamedServant k) | None ↦ None ]) ≡ Some (FreshServant n) → ⊥) [
      | Some k ↦ λ is. (let e : Some (NamedServant k) ≡ Some (FreshServant n) = is in let f : NamedServant k ≡ FreshServant n = cc in cc)
      | None ↦ λ is. (let e : None ≡ Some (FreshServant n) = is in cc)
    ]

phase_from : (p : Phase) (t : Sid) → (elim p [ Complete u ↦ Some u | Begun ↦ None | Void ↦ None ]) ≡ Some t → p ≡ Complete t
phase_from (Complete u) t is = (let e : Some u ≡ Some t = is in ap (λ x. Complete x) cc)
phase_from Begun t is = absurd (let e : None ≡ Some t = is in cc)
phase_from Void t is = absurd (let e : None ≡ Some t = is in cc)

module _ (c : Config) (run limit : ℕ) (opened : Stored) (past : List Entry) (w : ℕ) (given : IsGiven c run) (alone : IsGivenAlone c run)
    (within : IsWithinLimits c limit) (legal : IsLegal c run limit (Run w ∷ past)) where
  abbrev s : Standing
  s = standing c run past

  sound : IsSound c run s
  sound = legal_sound c run limit past given within legal.1

  -- a fresh servant that may be served is kept
  serves_kept : (m n : ℕ) → IsServable s m → servant_of_activation (activation_numbered s m) ≡ Some (FreshServant n) → is_kept s n ≡ true
  serves_kept m n may has =
      let there = found_activation s m may.it may.begun in
      let phase : may.it.phase ≡ Complete (FreshServant n) = phase_from may.it.phase (FreshServant n) (ap servant_of_activation (sym may.begun) ∙ has) in
      let own : n ≡ may.it.number = (stands_alone c run limit past given alone within legal.1).fresh may.it n there.0 phase in
      let untold =
      false_from_ne_true may.it.etherealized
      (λ told. true≢false (sym ((all_manned c run limit past given alone within legal.1).told_out may.it there.0 told) ∙ may.mapped)) in
      kept_by c run s sound n may.it there.0 (sym own) (keeps_from may.it (ap is_fresh phase) untold)

  -- the servant that runs is kept, where it is a fresh one
  pub runs_kept : (n : ℕ) → servant_run c run past (stage past w) ≡ Some (FreshServant n) → is_kept s n ≡ true
  runs_kept n = by_stage (stage past w) refl
    where
      by_verdict : (r : ℕ) (v : Option Verdict) → stage past w ≡ Serving r → admitted past r ≡ v → servant_by c s v ≡ Some (FreshServant n) → is_kept s n ≡ true
      by_verdict r (Some (Serve m)) at by is =
          serves_kept m n ((has_lifetime c run limit (Run w ∷ past) given alone within legal).kept.0 r m at (ap named by)) is
      by_verdict r (Some (Incarnate m)) at by is =
          serves_kept m n ((has_lifetime c run limit (Run w ∷ past) given alone within legal).kept.0 r m at (ap named by)) is
      by_verdict r (Some (Preset name)) at by is = absurd (not_named c name n is)
      by_verdict r (Some (Locator name)) at by is = absurd (not_named c name n is)
      by_verdict r (Some Try) at by is = absurd (let e : None ≡ Some (FreshServant n) = is in cc)
      by_verdict r (Some (Refuse x)) at by is = absurd (let e : None ≡ Some (FreshServant n) = is in cc)
      by_verdict r (Some (Forward x)) at by is = absurd (let e : None ≡ Some (FreshServant n) = is in cc)
      by_verdict r (Some Addressing) at by is = absurd (let e : None ≡ Some (FreshServant n) = is in cc)
      by_verdict r (Some Here) at by is = absurd (let e : None ≡ Some (FreshServant n) = is in cc)
      by_verdict r (Some Unknown) at by is = absurd (let e : None ≡ Some (FreshServant n) = is in cc)
      by_verdict r (Some (Answer x)) at by is = absurd (let e : None ≡ Some (FreshServant n) = is in cc)
      by_verdict r (Some Wait) at by is = absurd (let e : None ≡ Some (FreshServant n) = is in cc)
      by_verdict r None at by is = absurd (let e : None ≡ Some (FreshServant n) = is in cc)

      by_stage : (b : Stage) → stage past w ≡ b → servant_run c run past b ≡ Some (FreshServant n) → is_kept s n ≡ true
      by_stage (Serving r) at is = by_verdict r (admitted past r) at refl is
      by_stage Free at is = absurd (let e : None ≡ Some (FreshServant n) = is in cc)
      by_stage (Trying r) at is = absurd (let e : None ≡ Some (FreshServant n) = is in cc)
      by_stage (Incarnating r m) at is = absurd (let e : None ≡ Some (FreshServant n) = is in cc)
      by_stage (Ran r) at is = absurd (let e : None ≡ Some (FreshServant n) = is in cc)
      by_stage (Removing m) at is = absurd (let e : None ≡ Some (FreshServant n) = is in cc)

  pub run_holds : (old new : Kept) → ServantsAgree c run opened past old → IsActed (servant_run c run past (stage past w)) (call_run past (stage past w)) old new
      → ServantsAgree c run opened (Run w ∷ past) new
  run_holds old new holds activations =
      changed_holds c run limit opened past (Run w) given within legal refl
      (λ u x. after_run u (servant_run c run past (stage past w)) (call_run past (stage past w)) x) (λ u. refl)
      (λ p oid. refl) old new holds activations.configured activations.fresh activations.store

  -- its outcome is that of its state
  pub run_tells : (old : Kept) → ServantsAgree c run opened past old → (call : Option Call)
      → outcome_in (servant_run c run past (stage past w)) call old ≡ option_map (λ u. (acted (state_of c run opened past u) call).1)
      (servant_run c run past (stage past w))
  run_tells old holds call = by_servant (servant_run c run past (stage past w)) refl
    where
      by_servant : (runs : Option Sid) → servant_run c run past (stage past w) ≡ runs
          → outcome_in runs call old ≡ option_map (λ u. (acted (state_of c run opened past u) call).1) runs
      by_servant None is = refl
      by_servant (Some (NamedServant k)) is = ap (λ x. Some (acted x call).1) (holds.configured k)
      by_servant (Some (FreshServant n)) is =
          ap (λ x. Some (acted x call).1)
          (ap (λ o. unwrap_or o Fault) (holds.fresh n ∙ ap (λ b. if b then Some (state_of c run opened past (FreshServant n)) else None) (runs_kept n is)))
