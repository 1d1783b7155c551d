-- A request that is to run has its servant.
use Rattle.std.specs.Prelude.{◌≡◌, ℕ, true, false, List, Some, None, refl}
use Rattle.std.proofs.Common.{sym, subst, ap, ◌∙◌}
use Rattle.poa_base.specs.declared.Config.{Config}
use Rattle.poa_base.specs.declared.Entry.{Entry}
use Rattle.poa_base.specs.declared.Sid.{Sid}
use Rattle.poa_base.specs.declared.Sid.TheVariants.{Named as NamedServant}
use Rattle.poa_base.specs.declared.Verdict.{Verdict}
use Rattle.poa_base.specs.declared.Verdict.TheVariants.{Serve, Preset, Locator, Incarnate, Try, Refuse, Forward, Addressing, Here, Unknown, Answer, Wait}
use Rattle.poa_choose.specs.Laws.{runs}
use Rattle.poa_choose.specs.declared.Choice.TheVariants.{Go}
use Rattle.history_standing.specs.declared.activation.Activation.{Activation}
use Rattle.history_standing.specs.declared.activation.Phase.TheVariants.{Complete}
use Rattle.history_standing.specs.declared.stage.Stage.TheVariants.{Serving}
use Rattle.history_standing.specs.Trees.{In}
use Rattle.poa_history.specs.Alone.{IsGivenAlone}
use Rattle.poa_history.specs.Bounds.{IsWithinLimits}
use Rattle.history_standing.specs.Changes.{standing}
use Rattle.poa_history.specs.InFlight.{Holds as HoldsAt, IsRunning, named}
use Rattle.poa_history.specs.Legal.{IsLegal}
use Rattle.poa_history.specs.Sound.{IsGiven, IsSound}
use Rattle.history_standing.specs.Stages.{stage}
use Rattle.history_standing.specs.Standings.{Standing}
use Rattle.poa_history.specs.States.{servant_by, servant_of_activation}
use Rattle.history_standing.specs.Templates.{servant_number}
use Rattle.poa_history.specs.Turns.{activation_numbered}
use Rattle.poa_history.proofs.LegalSound.{legal_sound}
use Rattle.poa_history.proofs.MannedKept.{all_manned}
use Rattle.core_state.specs.Runs.{HasServant}
use Rattle.core_state.proofs.FreshFrom.{activation_found}
use Rattle.core_state.proofs.NamesThere.{IsThere, NamesThere, admitted_there}

module _ (c : Config) (run limit : ℕ) (h : List Entry) (given : IsGiven c run) (alone : IsGivenAlone c run) (within : IsWithinLimits c limit)
    (legal : IsLegal c run limit h) where
  abbrev s : Standing
  s = standing c run h

  sound : IsSound c run s
  sound = legal_sound c run limit h given within legal

  -- by an activation that has one
  by_activation : (n : ℕ) → ((a : Activation) × In a s.activations × (a.number ≡ n) × ((t : Sid) × (a.phase ≡ Complete t))) → (t : Sid)
      × (servant_of_activation (activation_numbered s n) ≡ Some t)
  by_activation n (a, there, at, (t, phase)) =
      (t, ap servant_of_activation (activation_found c run s sound n a there at) ∙ ap (λ p. servant_of_activation (Some (record a { phase = p }))) phase)

  -- by its name
  by_name : (name : List ℕ) → IsThere c name → (t : Sid) × ((elim (servant_number c name) [ Some k ↦ Some (NamedServant k) | None ↦ None ]) ≡ Some t)
  by_name name (k, is) = (NamedServant k, ap (λ o. elim o [ Some j ↦ Some (NamedServant j) | None ↦ None ]) is)

  by_verdict : (v : Verdict) → runs (Go v) ≡ true
      → ((n : ℕ) → named (Some v) ≡ Some n → (a : Activation) × In a s.activations × (a.number ≡ n) × ((t : Sid) × (a.phase ≡ Complete t)))
      → NamesThere c (Some v) → (t : Sid) × (servant_by c s (Some v) ≡ Some t)
  by_verdict (Serve n) ran served there = by_activation n (served n refl)
  by_verdict (Incarnate n) ran served there = by_activation n (served n refl)
  by_verdict (Preset name) ran served there = by_name name there
  by_verdict (Locator name) ran served there = by_name name there
  by_verdict Try ran served there = absurd (let e : false ≡ true = ran in cc)
  by_verdict (Refuse x) ran served there = absurd (let e : false ≡ true = ran in cc)
  by_verdict (Forward x) ran served there = absurd (let e : false ≡ true = ran in cc)
  by_verdict Addressing ran served there = absurd (let e : false ≡ true = ran in cc)
  by_verdict Here ran served there = absurd (let e : false ≡ true = ran in cc)
  by_verdict Unknown ran served there = absurd (let e : false ≡ true = ran in cc)
  by_verdict (Answer x) ran served there = absurd (let e : false ≡ true = ran in cc)
  by_verdict Wait ran served there = absurd (let e : false ≡ true = ran in cc)

  running_has : (r : ℕ) → IsRunning h s r → HasServant c run h r
  running_has r is =
      subst (λ o. (t : Sid) × (servant_by c s o ≡ Some t)) (sym is.by)
      (by_verdict is.verdict is.run is.served (subst (NamesThere c) is.by (admitted_there c run limit alone h legal r)))

  pub serving_has : (w r : ℕ) → stage h w ≡ Serving r → HasServant c run h r
  serving_has w r at = running_has r (subst (HoldsAt h s) at ((all_manned c run limit h given alone within legal).stages w))
