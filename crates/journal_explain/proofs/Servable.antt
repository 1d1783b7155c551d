-- The servant of an activation that has a call served next is the one that is kept of it.
use Rattle.std.proofs.Common.{◌≡◌, ℕ, ◌==◌, true, false, ◌||◌, ◌∷◌, Option, Some, None, refl, sym, ap, ap₂, ◌∙◌, arith}
use Rattle.std.specs.Prelude.{option_and_then}
use Rattle.std.proofs.lemmas.Bool.{eqb-true, false_from_ne_true, true≢false}
use Rattle.poa_base.specs.declared.Config.{Config}
use Rattle.poa_base.specs.declared.Entry.{Entry}
use Rattle.poa_base.specs.declared.Entry.TheVariants.{Admit}
use Rattle.poa_base.specs.declared.Sid.{Sid}
use Rattle.poa_base.specs.declared.Verdict.{Verdict}
use Rattle.poa_base.specs.declared.Verdict.TheVariants.{Serve}
use Rattle.history_standing.specs.declared.activation.Activation.{Activation}
use Rattle.history_standing.specs.declared.activation.Phase.{Phase}
use Rattle.history_standing.specs.declared.activation.Phase.TheVariants.{Begun, Complete, Void}
use Rattle.history_standing.specs.Changes.{standing}
use Rattle.history_standing.specs.Ends.{is_over}
use Rattle.history_standing.specs.Standings.{is_complete}
use Rattle.poa_history.specs.Life.{Life, opened}
use Rattle.poa_history.specs.Lifetime.{IsServable}
use Rattle.poa_history.specs.Runs.{IsRun}
use Rattle.poa_history.specs.Sound.{IsSound}
use Rattle.poa_history.specs.States.{servant_of_activation}
use Rattle.poa_history.specs.Turns.{activation_numbered}
use Rattle.poa_history.proofs.LegalSound.{legal_sound}
use Rattle.poa_history.proofs.LivesKept.{has_lifetime}
use Rattle.history_laws.proofs.Opened.{alone, given, within}
use Rattle.journal_audit.specs.Judging.{Follows}
use Rattle.core_standing.specs.Seen.{forgotten, seen}
use Rattle.core_standing.proofs.Behind.{first_fails}
use Rattle.core_standing.proofs.Kept.{find_alike}
use Rattle.core_state.specs.State.{StateAgrees}
use Rattle.core_state.specs.declared.state.State.{State}
use Rattle.core_state.proofs.FreshFrom.{found_activation}
use Rattle.journal_explain.specs.declared.servant.Servant.{Servant}
use Rattle.journal_explain.specs.declared.service.Service.{Service}
use Rattle.journal_explain.specs.Serving.{servant_at, servant_of, served_with, service_by, serving_by}

serves_by : (v : Verdict) (n : ℕ) → serving_by v ≡ Some n → v ≡ Serve n
serves_by (Serve m) n is = (let same : Some m ≡ Some n = is in cc)
serves_by v n is = absurd (let f : None ≡ Some n = is in cc)

-- an activation by which an entry has a call served is in the map before it
pub servable_next : (life : Life) (e : Entry) (n : ℕ) → IsRun life.config life.run life.limit life.history → Follows life e
    → served_with e ≡ Some n → IsServable (standing life.config life.run life.history) n
servable_next life (Admit w r v) n runs follows served =
    let c = life.config in
    let run = life.run in
    let limit = life.limit in
    let h = life.history in
    let lives = has_lifetime c run limit (Admit w r v ∷ h) (given c run limit h runs) (alone c run limit h runs) (within c run limit h runs) (follows, runs.legal) in
    lives.kept.0.0 n (serves_by v n served)
servable_next life e n runs follows served = absurd (let f : None ≡ Some n = served in cc)

-- what has its servant isn't void
manned : (p : Phase) → (elim p [ Complete s ↦ true | Begun ↦ false | Void ↦ false ]) ≡ true
    → (elim p [ Void ↦ true | Begun ↦ false | Complete s ↦ false ]) ≡ false
manned (Complete s) is = refl
manned Begun is = refl
manned Void is = absurd (let f : false ≡ true = is in cc)

-- one that is in the map isn't over
mapped_lives : (c : Config) (a : Activation) → is_complete a ≡ true → a.out ≡ false → is_over c a ≡ false
mapped_lives c a complete mapped = ap₂ (λ x y. x || y) (manned a.phase complete) (first_fails a.out _ mapped)

module _ (life : Life) (s : State) (is : StateAgrees life.config life.run (opened life) life.history s)
    (runs : IsRun life.config life.run life.limit life.history) (n : ℕ) (servable : IsServable (standing life.config life.run life.history) n) where
  -- it is kept
  numbered_kept : activation_numbered (seen s.standing) n ≡ activation_numbered (standing life.config life.run life.history) n
  numbered_kept =
      let c = life.config in
      let run = life.run in
      let limit = life.limit in
      let h = life.history in
      let stood = standing c run h in
      let sound : IsSound c run stood = legal_sound c run limit h (given c run limit h runs) (within c run limit h runs) runs.legal in
      let it : Activation = servable.it in
      let there = found_activation stood n it servable.begun in
      let forgets = is.stands.stands.forgets in
      find_alike c stood.activations (seen s.standing).activations forgets (λ a. a.number == n)
      (false_from_ne_true (forgotten.number == n)
      (λ same.
      (let e = eqb-true forgotten.number n same in let low = sound.counted it there.0 in let at = there.1 in let few = is.stands.few in
      let many = forgets.begun in omega (arith, e, low, at, few, many))))
      (λ a in_ over. false_from_ne_true (a.number == n)
      (λ same. (let alike : a ≡ it = sound.activation_alone a it in_ there.0 (eqb-true a.number n same ∙ sym there.1) in
      true≢false (sym over ∙ ap (is_over c) alike ∙ mapped_lives c it servable.complete servable.mapped))))

  -- and so is its servant
  pub servant_is : (config : Config) → config ≡ life.config → (found : Option Sid)
      → found ≡ servant_of_activation (activation_numbered (seen s.standing) n) → (told : Option Servant)
      → told ≡ option_and_then (servant_of config) found → told ≡ servant_at life.config life.run life.history n
  servant_is config config_is found by told is_told =
      is_told
      ∙ (ap₂ (λ (c : Config) (sid : Option Sid). option_and_then (servant_of c) sid) config_is by
      ∙ ap (λ (o : Option Activation). option_and_then (servant_of life.config) (servant_of_activation o)) numbered_kept)

abbrev told : Option ℕ → Option Servant → Option Service
told begun servant = Some (record { servant = servant; begun = begun })

-- so it is told of the activation
pub service_is : (life : Life) (e : Entry) (begun : Option ℕ) (n : ℕ) → served_with e ≡ Some n → (found : Option Servant)
    → found ≡ servant_at life.config life.run life.history n
    → told begun found ≡ service_by life.config life.run life.history begun (served_with e)
service_is life e begun n served found is = ap (told begun) is ∙ sym (ap (service_by life.config life.run life.history begun) served)
