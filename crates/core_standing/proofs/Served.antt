-- A request is in flight in the adapter of the activation that serves it: that is the one that the path of its key meets.
use Rattle.std.proofs.Common.{◌≡◌, ℕ, ◌<◌, true, false, List, ◌∷◌, ◌++◌, [], Option, Some, None, length, if◌then◌else◌, refl, sym, ap, subst, ◌∙◌, inl, inr, eq-eqb, arith}
use Rattle.std.specs.Prelude.{is_none}
use Rattle.poa_base.specs.declared.Config.{Config}
use Rattle.poa_base.specs.declared.Entry.{Entry}
use Rattle.poa_base.specs.declared.Entry.TheVariants.{Admit}
use Rattle.poa_base.specs.declared.Key.{Key}
use Rattle.poa_base.specs.declared.Verdict.{Verdict}
use Rattle.poa_base.specs.declared.Verdict.TheVariants.{Serve}
use Rattle.history_standing.specs.declared.activation.Activation.{Activation}
use Rattle.history_standing.specs.declared.flight.Flight.{Flight}
use Rattle.history_standing.specs.declared.stage.Stage.{Stage}
use Rattle.history_standing.specs.declared.stage.Stage.TheVariants.{Free, Trying, Incarnating, Serving, Ran, Removing}
use Rattle.history_standing.specs.Arrivals.{call_of}
use Rattle.history_standing.specs.Changes.{changed, standing, with_admitted, with_flight}
use Rattle.history_standing.specs.Keys.{key_in}
use Rattle.history_standing.specs.Stages.{admitted, arrival_in, begun_by, stage}
use Rattle.history_standing.specs.Standings.{Standing}
use Rattle.history_standing.specs.Trees.{In}
use Rattle.history_standing.specs.Walks.{adapter_met, walk}
use Rattle.history_standing.proofs.Members.{in_back}
use Rattle.poa_history.specs.Alone.{IsGivenAlone}
use Rattle.poa_history.specs.Bounds.{IsWithinLimits}
use Rattle.poa_history.specs.InFlight.{Holds, IsManned}
use Rattle.poa_history.specs.Legal.{IsLegal}
use Rattle.poa_history.specs.Sound.{IsGiven, IsSound}
use Rattle.poa_history.proofs.LegalSound.{legal_sound}
use Rattle.poa_history.proofs.MannedKept.{all_manned}
use Rattle.poa_history.proofs.TurnTells.{admission_is}
use Rattle.core_standing.specs.Kept.{StandingAgrees}
use Rattle.core_standing.proofs.Forgotten.{kept_begun}
use Rattle.core_standing.proofs.Settled.{still_after}

module _ (c : Config) (run limit : ℕ) (past : List Entry) (w r n : ℕ) (given : IsGiven c run) (alone : IsGivenAlone c run)
    (within : IsWithinLimits c limit) (legal : IsLegal c run limit (Admit w r (Serve n) ∷ past)) where
  abbrev e : Entry
  e = Admit w r (Serve n)

  abbrev s : Standing
  s = standing c run past

  abbrev t : Standing
  t = standing c run (e ∷ past)

  before : IsManned c run past
  before = all_manned c run limit past given alone within legal.1

  after : IsManned c run (e ∷ past)
  after = all_manned c run limit (e ∷ past) given alone within legal

  sound : IsSound c run s
  sound = legal_sound c run limit past given within legal.1

  begins : t ≡ with_admitted r (key_in (call_of past r)) (Serve n) s
  begins = still_after c run past e refl

  -- nobody is at it before
  unadmitted : (v : Verdict) → admitted past r ≡ Some v → ⊥
  unadmitted v is = (let x : false ≡ true = sym (ap is_none is) ∙ (admission_is c run past w r (Serve n) legal.0).unadmitted in cc)

  same_arrival : (q : ℕ) → Some q ≡ Some r → q ≡ r
  same_arrival q is = (let x : Some q ≡ Some r = is in cc)

  apart : (begun : Stage) → Holds past s begun → arrival_in begun ≡ Some r → ⊥
  apart (Trying q) holds at = unadmitted _ (ap (admitted past) (sym (same_arrival q at)) ∙ holds.0)
  apart (Incarnating q m) holds at = unadmitted _ (ap (admitted past) (sym (same_arrival q at)) ∙ holds.0)
  apart (Serving q) holds at = unadmitted _ (ap (admitted past) (sym (same_arrival q at)) ∙ holds.by)
  apart (Ran q) holds at = unadmitted _ (ap (admitted past) (sym (same_arrival q at)) ∙ holds.by)
  apart Free holds at = (let x : None ≡ Some r = at in cc)
  apart (Removing m) holds at = (let x : None ≡ Some r = at in cc)

  serves : stage (e ∷ past) w ≡ Serving r
  serves = ap (λ b. if b then begun_by r (Serve n) else stage past w) (eq-eqb w w refl)

  -- what is in flight for it then is of a key that could be read
  keyed : (o : Option Key) → key_in (call_of past r) ≡ o → (key : Key) × (o ≡ Some key)
  keyed (Some key) is = (key, refl)
  keyed None is =
      (let flying = (subst (Holds (e ∷ past) t) serves (after.stages w)).flying in
      let was : In flying.0 s.flights =
      subst (In flying.0) (ap (λ (x : Standing). x.flights) (begins ∙ ap (λ o. with_admitted r o (Serve n) s) is)) flying.1 in
      let at = before.manned flying.0 was in
      absurd (apart (stage past at.0) (before.stages at.0) (at.1 ∙ ap (λ q. Some q) flying.2)))

  -- the activation of this number is in the adapter that the path of the key meets
  homes : (b : Activation) → In b s.activations → b.number ≡ n
      → (key : Key) × (key_in (call_of past r) ≡ Some key) × (b.adapter ≡ adapter_met (walk s.nodes key.path))
  homes b there numbered =
      (let found = keyed (key_in (call_of past r)) refl in
      let key = found.0 in
      let f : Flight = record { arrival = r; adapter = adapter_met (walk s.nodes key.path); activation = Some n; child = None } in
      let begun : t ≡ with_flight f s = begins ∙ ap (λ o. with_admitted r o (Serve n) s) found.1 in
      let flies : In f t.flights = subst (In f) (sym (ap (λ (x : Standing). x.flights) begun)) (in_back f s.flights) in
      let serving = after.activations f n flies refl in
      let was : In serving.0 s.activations = subst (In serving.0) (ap (λ (x : Standing). x.activations) begun) serving.1 in
      let same : b ≡ serving.0 = sound.activation_alone b serving.0 there was (numbered ∙ sym serving.2) in
      (key, found.1, ap (λ (x : Activation). x.adapter) same ∙ serving.3))

  pub served_agrees : (old mid : Standing) → StandingAgrees c run past old → length old.activations < 4294967296 → (b : Activation) → In b old.activations
      → b.number ≡ n → n < 4294967296 → mid ≡ with_flight (record { arrival = r; adapter = b.adapter; activation = Some n; child = None }) old
      → StandingAgrees c run (e ∷ past) mid
  served_agrees old mid kept room b there numbered low is =
      (let in_all : In b s.activations =
      elim (kept.stands.forgets.known b there) [
        | inl gone ↦ absurd (let past_all : b.number ≡ 4294967296 = ap (λ (x : Activation). x.number) gone in omega (arith, past_all, numbered, low))
        | inr in_ ↦ in_
      ] in
      let home = homes b in_all numbered in
      let key = home.0 in
      let nodes : old.nodes ≡ s.nodes = ap (λ (x : Standing). x.nodes) kept.stands.same in
      let met : b.adapter ≡ adapter_met (walk old.nodes key.path) = home.2 ∙ ap (λ ns. adapter_met (walk ns key.path)) (sym nodes) in
      let change : mid ≡ changed c run past e old =
      is
      ∙ (ap (λ k. with_flight (record { arrival = r; adapter = k; activation = Some n; child = None }) old) met
      ∙ sym (ap (λ o. with_admitted r o (Serve n) old) home.1)) in
      kept_begun c run past e old mid kept (λ _. room) change refl)
