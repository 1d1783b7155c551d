-- An activation that keeps a fresh servant after an entry kept it before, or the entry brings it.
use Rattle.std.specs.Prelude.{◌≡◌, ℕ, Bool, true, false, not, ◌==◌, List, ◌∷◌, find, Some, None, ◌⊎◌, refl}
use Rattle.std.proofs.Common.{inl, inr, sym, ap, ◌∙◌}
use Rattle.std.proofs.lemmas.Bool.{and_parts, and_from, true≢false, false_from_ne_true, eqb-true, eq-eqb}
use Rattle.poa_base.specs.declared.Config.{Config}
use Rattle.poa_base.specs.declared.Sid.TheVariants.{Named as NamedServant, Fresh as FreshServant}
use Rattle.poa_base.specs.declared.Entry.{Entry}
use Rattle.poa_base.specs.declared.Entry.TheVariants.{Incarnated, Etherealized}
use Rattle.poa_base.specs.declared.Incarnation.{Incarnation}
use Rattle.poa_base.specs.declared.Incarnation.TheVariants.{Fresh, Named, Double, Forward as ForwardTo, Raise}
use Rattle.history_standing.specs.declared.activation.Activation.{Activation}
use Rattle.history_standing.specs.declared.activation.Phase.{Phase}
use Rattle.history_standing.specs.declared.activation.Phase.TheVariants.{Begun, Complete, Void}
use Rattle.history_standing.specs.declared.stage.Stage.TheVariants.{Incarnating, Removing}
use Rattle.history_standing.specs.Templates.{servant_number}
use Rattle.history_standing.specs.Stages.{stage}
use Rattle.history_standing.specs.Standings.{Standing}
use Rattle.history_standing.specs.Trees.{In}
use Rattle.history_standing.specs.Changes.{standing, servant_of}
use Rattle.poa_history.specs.Later.{IsLater}
use Rattle.poa_history.specs.Sound.{IsSound}
use Rattle.poa_history.specs.Turns.{activation_numbered}
use Rattle.history_standing.proofs.Finding.{find_in, find_none}
use Rattle.poa_history.proofs.ActivationsLater.{step_later}
use Rattle.poa_history.proofs.ActivationsFrom.{phase_by, IsBegun, incarnating, activating, activating_id, referring, stood, begun, activation_from}
use Rattle.core_state.specs.Holds.{is_fresh, keeps_fresh, is_kept_by, is_kept}
use Rattle.history_standing.proofs.Tests.{not_true, not_false}

-- the activation of a number is the one that stands by it
pub activation_found : (c : Config) (run : ℕ) (s : Standing) → IsSound c run s → (n : ℕ) (a : Activation) → In a s.activations → a.number ≡ n
    → activation_numbered s n ≡ Some a
activation_found c run s sound n a there at =
    elim (find (λ b. b.number == n) s.activations) as (λ o. find (λ b. b.number == n) s.activations ≡ o → o ≡ Some a) [
      | None ↦ λ none. absurd (find_none (λ b. b.number == n) a s.activations none there (eq-eqb a.number n at))
      | Some b ↦
          λ found.
          (let is = find_in (λ x. x.number == n) b s.activations found in
          ap (λ x. Some x) (sound.activation_alone b a is.0 there (eqb-true b.number n is.1 ∙ sym at)))
    ] refl

-- it is one that stands
pub found_activation : (s : Standing) (n : ℕ) (a : Activation) → activation_numbered s n ≡ Some a → In a s.activations × (a.number ≡ n)
found_activation s n a found = (let is = find_in (λ b. b.number == n) a s.activations found in (is.0, eqb-true a.number n is.1))

pub kept_is : (s : Standing) (n : ℕ) → is_kept s n ≡ true → (a : Activation) × In a s.activations × (a.number ≡ n) × (keeps_fresh a ≡ true)
kept_is s n is =
    elim (activation_numbered s n) as (λ o. activation_numbered s n ≡ o → is_kept_by o ≡ true → (a : Activation) × In a s.activations × (a.number ≡ n)
    × (keeps_fresh a ≡ true)) [
      | None ↦ λ _ none. absurd (let e : false ≡ true = none in cc)
      | Some a ↦ λ found keeps. (let there = found_activation s n a found in (a, there.0, there.1, keeps))
    ] refl is

pub kept_by : (c : Config) (run : ℕ) (s : Standing) → IsSound c run s → (n : ℕ) (a : Activation) → In a s.activations → a.number ≡ n → keeps_fresh a ≡ true
    → is_kept s n ≡ true
kept_by c run s sound n a there at keeps = ap is_kept_by (activation_found c run s sound n a there at) ∙ keeps

pub keeps_parts : (a : Activation) → keeps_fresh a ≡ true → (is_fresh a.phase ≡ true) × (a.etherealized ≡ false)
keeps_parts a keeps = (let parts = and_parts (is_fresh a.phase) (not a.etherealized) keeps in (parts.0, not_true a.etherealized parts.1))

pub keeps_from : (a : Activation) → is_fresh a.phase ≡ true → a.etherealized ≡ false → keeps_fresh a ≡ true
keeps_from a is untold = and_from (is_fresh a.phase) (not a.etherealized) is (not_false a.etherealized untold)

pub fresh_phase : (p : Phase) → is_fresh p ≡ true → (m : ℕ) × (p ≡ Complete (FreshServant m))
fresh_phase (Complete (FreshServant m)) is = (m, refl)
fresh_phase (Complete (NamedServant k)) is = absurd (let e : false ≡ true = is in cc)
fresh_phase Begun is = absurd (let e : false ≡ true = is in cc)
fresh_phase Void is = absurd (let e : false ≡ true = is in cc)

-- a configured servant is no fresh one
named_unfresh : (c : Config) (name : List ℕ) → is_fresh (servant_of c name) ≡ false
named_unfresh c name =
    elim (servant_number c name) as (λ o. is_fresh (elim o [ Some k ↦ Complete (NamedServant k) | None ↦ Void ]) ≡ false) [ Some k ↦ refl | None ↦ refl ]

fresh_answer : (c : Config) (n : ℕ) (answer : Incarnation) → is_fresh (phase_by c n answer) ≡ true → (m : ℕ) × (answer ≡ Fresh m)
fresh_answer c n (Fresh m) is = (m, refl)
fresh_answer c n (Named name) is = absurd (true≢false (sym is ∙ named_unfresh c name))
fresh_answer c n Double is = absurd (let e : false ≡ true = is in cc)
fresh_answer c n (ForwardTo x) is = absurd (let e : false ≡ true = is in cc)
fresh_answer c n (Raise x) is = absurd (let e : false ≡ true = is in cc)

module _ (c : Config) (run : ℕ) (past : List Entry) (e : Entry) where
  -- the entry brings the fresh servant of the activation
  pub record IsComing (a : Activation) : Type 0 where
    pub worker : ℕ
    pub arrival : ℕ
    pub servant : ℕ
    pub same : e ≡ Incarnated worker (Fresh servant)
    pub begun_ : stage past worker ≡ Incarnating arrival a.number
    pub was : a.phase ≡ Begun

  pub data FreshFrom (b : Activation) : Type 0 where
    kept : (a : Activation) → In a (standing c run past).activations → IsLater c a b → keeps_fresh a ≡ true → FreshFrom b
    comes : (a : Activation) → In a (standing c run past).activations → IsLater c a b → IsComing a → FreshFrom b

  -- the entry tells that the servant of the activation was etherealized
  abbrev pub Tells : ℕ → Type 0
  Tells n = (w : ℕ) × (cleanup : Bool) × (remaining : Bool) × (e ≡ Etherealized w cleanup remaining) × (stage past w ≡ Removing n)

  not_begun : (b : Activation) → IsBegun c run past (standing c run past) e b → is_fresh b.phase ≡ false
  not_begun b new =
      elim new.how [
        | incarnating w r n key same has adapter path oid phase ↦ ap is_fresh phase
        | activating p servant done adapter path oid phase ↦ ap is_fresh phase ∙ named_unfresh c servant
        | activating_id p oid' servant done adapter path oid phase ↦ ap is_fresh phase ∙ named_unfresh c servant
        | referring p servant n k done lives known implicit adapter path oid phase ↦ ap is_fresh phase ∙ named_unfresh c servant
      ]

  pub fresh_from : (b : Activation) → In b (standing c run (e ∷ past)).activations → keeps_fresh b ≡ true → FreshFrom b
  fresh_from b there keeps =
      let parts = keeps_parts b keeps in
      elim (activation_from c run past e b there) [
        | begun new ↦ absurd (true≢false (sym parts.0 ∙ not_begun b new))
        | stood a was step ↦ elim step.came [
          | inl same ↦
              kept a was step.later
              (keeps_from a (ap is_fresh (sym same) ∙ parts.0)
              (false_from_ne_true a.etherealized (λ told. true≢false (sym (step.later.etherealized told) ∙ parts.1))))
          | inr come ↦ (let brings = come.1 in
              let answer = fresh_answer c a.number brings.answer (ap is_fresh brings.phase_is ∙ parts.0) in
              comes a was step.later
              (record {
                worker = brings.worker;
                arrival = brings.arrival;
                servant = answer.0;
                same = brings.same ∙ ap (λ x. Incarnated brings.worker x) answer.1;
                begun_ = brings.begun;
                was = come.0;
              }))
        ]
      ]

  -- it is kept until the entry tells that it was etherealized
  pub fresh_to : IsSound c run (standing c run past) → (a : Activation) → In a (standing c run past).activations → keeps_fresh a ≡ true
      → ((b : Activation) × In b (standing c run (e ∷ past)).activations × (b.number ≡ a.number) × (keeps_fresh b ≡ true)) ⊎ Tells a.number
  fresh_to sound a there keeps =
      let parts = keeps_parts a keeps in
      let phase = fresh_phase a.phase parts.0 in
      let (b, in_b, later) = step_later c run past e a there in
      elim b.etherealized as (λ t. b.etherealized ≡ t
      → ((b : Activation) × In b (standing c run (e ∷ past)).activations × (b.number ≡ a.number) × (keeps_fresh b ≡ true)) ⊎ Tells a.number) [
        | false ↦ λ untold. inl (b, in_b, later.number, keeps_from b (ap is_fresh (later.served (FreshServant phase.0) phase.1)) untold)
        | true ↦ λ told. elim (activation_from c run past e b in_b) [
          | begun new ↦ absurd (true≢false (sym told ∙ new.etherealized))
          | stood d was step ↦ (let same : d ≡ a = sound.activation_alone d a was there (sym step.later.number ∙ later.number) in
              elim (step.told_back told) [
                | inl before ↦ absurd (true≢false (sym before ∙ (ap (λ x. x.etherealized) same ∙ parts.1)))
                | inr tells ↦ inr (tells.0, tells.1, tells.2, tells.3, tells.4 ∙ ap (λ x. Removing x.number) same)
              ])
        ]
      ] refl
