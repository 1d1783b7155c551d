-- An incarnation that was begun, and an etherealization that is due, are in the hands of a worker.
use Rattle.history_laws.proofs.Workers.{incarnating_after, removing_after}
use Rattle.poa_base.specs.declared.Config.{Config}
use Rattle.poa_base.specs.declared.Entry.{Entry}
use Rattle.poa_base.specs.declared.Entry.TheVariants.{Admit, Etherealized, Incarnated, TakeOut}
use Rattle.poa_base.specs.declared.Incarnation.{Incarnation}
use Rattle.poa_base.specs.declared.Incarnation.TheVariants.{Double, Forward as ForwardTo, Fresh, Named, Raise}
use Rattle.poa_base.specs.declared.Sid.TheVariants.{Fresh as FreshServant, Named as NamedServant}
use Rattle.poa_base.specs.declared.Verdict.TheVariants.{Incarnate}
use Rattle.poa_history.proofs.ActivationsFrom.{activating, activating_id, activation_from, begun as activation_begun, incarnating, phase_by, referring, stood as activation_stood}
use Rattle.poa_history.proofs.AloneKept.{all_open}
use Rattle.poa_history.proofs.LegalSound.{legal_sound}
use Rattle.poa_history.proofs.LivesKept.{has_lifetime}
use Rattle.poa_history.proofs.SettledKept.{stays}
use Rattle.poa_history.proofs.StagesFrom.{own}
use Rattle.poa_history.proofs.TurnTells.{takeout_is}
use Rattle.poa_history.specs.Alone.{IsGivenAlone}
use Rattle.poa_history.specs.Bounds.{IsWithinLimits}
use Rattle.history_standing.specs.Changes.{at_number, changed, come_to, servant_of, standing, with_etherealized, with_incarnated}
use Rattle.history_standing.specs.Ends.{is_left, let_out}
use Rattle.poa_history.specs.Legal.{IsLegal, MayFollow}
use Rattle.poa_history.specs.Lifetime.{KeepsLives}
use Rattle.poa_history.specs.Sound.{IsGiven}
use Rattle.history_standing.specs.Stages.{stage}
use Rattle.history_standing.specs.Standings.{Standing, is_begun}
use Rattle.history_standing.specs.Templates.{has_activator, servant_number}
use Rattle.history_standing.specs.declared.activation.Activation.{Activation}
use Rattle.history_standing.specs.declared.activation.Phase.{Phase}
use Rattle.history_standing.specs.declared.activation.Phase.TheVariants.{Begun, Complete, Void}
use Rattle.history_standing.specs.declared.stage.Stage.TheVariants.{Incarnating, Removing}
use Rattle.history_standing.proofs.Members.{in_image}
use Rattle.history_standing.specs.Trees.{In}
use Rattle.std.proofs.Common.{◌∙◌, ap, inl, inr, subst, sym}
use Rattle.std.proofs.lemmas.Bool.{cond_both, eq-eqb, false_from_ne_true, true≢false}
use Rattle.std.specs.Prelude.{◌==◌, ◌∷◌, ◌≡◌, Bool, List, None, Some, [], false, if◌then◌else◌, length, map, not, refl, true, ℕ}

servant_phase : (c : Config) (name : List ℕ) → servant_of c name ≡ Begun → ⊥
servant_phase c name =
    elim (servant_number c name) as (λ o. (elim o as (λ _. Phase) [ Some k ↦ Complete (NamedServant k) | None ↦ Void ]) ≡ Begun → ⊥)
    [ Some k ↦ λ is. (let f : Complete (NamedServant k) ≡ Begun = is in cc) | None ↦ λ is. (let f : Void ≡ Begun = is in cc) ]

-- an incarnation's answer leaves no activation begun
phase_ended : (c : Config) (n : ℕ) (a : Incarnation) → phase_by c n a ≡ Begun → ⊥
phase_ended c n (Fresh m) is = (let f : Complete (FreshServant n) ≡ Begun = is in cc)
phase_ended c n (Named name) is = servant_phase c name is
phase_ended c n Double is = (let f : Void ≡ Begun = is in cc)
phase_ended c n (ForwardTo x) is = (let f : Void ≡ Begun = is in cc)
phase_ended c n (Raise x) is = (let f : Void ≡ Begun = is in cc)

pub incarnated_activations : (c : Config) (s : Standing) (r n : ℕ) (a : Incarnation)
    → (with_incarnated c (Incarnating r n) a s).activations ≡ map (at_number n (come_to (phase_by c n a))) s.activations
incarnated_activations c s r n (Fresh m) = refl
incarnated_activations c s r n (Named name) = refl
incarnated_activations c s r n Double = refl
incarnated_activations c s r n (ForwardTo x) = refl
incarnated_activations c s r n (Raise x) = refl

-- letting it out changes that alone
pub let_same : {B : Type 0} (c : Config) (s : Standing) (a : Activation) (f : Activation → B) → f (record a { out = true }) ≡ f a → f (let_out c s a) ≡ f a
let_same c s a f same = cond_both (is_left c s a) (record a { out = true }) a (λ b. f b ≡ f a) (λ _. same) (λ _. refl)

pub phase_begun : (a : Activation) → a.phase ≡ Begun → is_begun a ≡ true
phase_begun a at = ap (λ p. elim p [ Begun ↦ true | Complete s ↦ false | Void ↦ false ]) at

module _ (c : Config) (run : ℕ) (past : List Entry) where
  abbrev s : Standing
  s = standing c run past

  -- what is one of the number after a change of it alone was changed
  changed_at : (n : ℕ) (f : Activation → Activation) → ((x : Activation) → (f x).number ≡ x.number) → (b : Activation)
      → In b (map (at_number n f) s.activations) → b.number ≡ n → (x : Activation) × In x s.activations × (x.number ≡ n) × (b ≡ f x)
  changed_at n f keeps b there at =
      let found = in_image (at_number n f) b s.activations there in
      let same : (at_number n f found.0).number ≡ found.0.number =
      cond_both (found.0.number == n) (f found.0) found.0 (λ y. y.number ≡ found.0.number) (λ _. keeps found.0) (λ _. refl) in
      let number : found.0.number ≡ n = sym same ∙ (ap (λ y. y.number) (sym found.2) ∙ at) in
      (found.0, found.1, number, found.2 ∙ ap (λ z. if z then f found.0 else found.0) (eq-eqb found.0.number n number))

  come_number : (phase : Phase) (x : Activation) → (come_to phase x).number ≡ x.number
  come_number phase x = cond_both (is_begun x) (record x { phase = phase }) x (λ y. y.number ≡ x.number) (λ _. refl) (λ _. refl)

  -- an activation whose incarnation ended is begun no longer
  pub incarnated_phase : (w r n : ℕ) (e : Entry) (a : Incarnation) → stage past w ≡ Incarnating r n → e ≡ Incarnated w a → (b : Activation)
      → In b (standing c run (e ∷ past)).activations → b.number ≡ n → b.phase ≡ Begun → ⊥
  incarnated_phase w r n e a at is b there number phase =
      let t = changed c run past e s in
      let found = in_image (let_out c t) b t.activations there in
      let acts : t.activations ≡ map (at_number n (come_to (phase_by c n a))) s.activations =
      ap (λ y. (changed c run past y s).activations) is ∙ (ap (λ g. (with_incarnated c g a s).activations) at ∙ incarnated_activations c s r n a) in
      let d = changed_at n (come_to (phase_by c n a)) (come_number (phase_by c n a)) found.0 (subst (λ xs. In found.0 xs) acts found.1)
      (sym (let_same c t found.0 (λ y. y.number) refl) ∙ (ap (λ y. y.number) (sym found.2) ∙ number)) in
      let phase' : (come_to (phase_by c n a) d.0).phase ≡ Begun = ap (λ y. y.phase) (sym d.3)
      ∙ (sym (let_same c t found.0 (λ y. y.phase) refl) ∙ (ap (λ y. y.phase) (sym found.2) ∙ phase)) in
      cond_both (is_begun d.0) (record d.0 { phase = phase_by c n a }) d.0 (λ y. y.phase ≡ Begun → ⊥) (λ _. phase_ended c n a)
      (λ none at'. true≢false (sym (phase_begun d.0 at') ∙ none)) phase'

  -- an activation whose etherealization ended is etherealized
  pub told_after : (w n : ℕ) (e : Entry) (x y : Bool) → stage past w ≡ Removing n → e ≡ Etherealized w x y → (b : Activation)
      → In b (standing c run (e ∷ past)).activations → b.number ≡ n → b.etherealized ≡ true
  told_after w n e x y at is b there number =
      let t = changed c run past e s in
      let found = in_image (let_out c t) b t.activations there in
      let acts : t.activations ≡ map (at_number n (λ a. record a { etherealized = true })) s.activations =
      ap (λ z. (changed c run past z s).activations) is ∙ ap (λ g. (with_etherealized g s).activations) at in
      let d = changed_at n (λ a. record a { etherealized = true }) (λ _. refl) found.0 (subst (λ xs. In found.0 xs) acts found.1)
      (sym (let_same c t found.0 (λ z. z.number) refl) ∙ (ap (λ z. z.number) (sym found.2) ∙ number)) in
      ap (λ z. z.etherealized) found.2 ∙ (let_same c t found.0 (λ z. z.etherealized) refl ∙ ap (λ z. z.etherealized) d.3)

module _ (c : Config) (run limit : ℕ) (given : IsGiven c run) (alone : IsGivenAlone c run) (within : IsWithinLimits c limit) where
  -- an activation that is incarnated has the next number
  pub next_number : (past : List Entry) (e : Entry) → IsLegal c run limit (e ∷ past) → (w r n : ℕ) → e ≡ Admit w r (Incarnate n)
      → n ≡ length (standing c run past).activations
  next_number past e legal w r n is =
      (let keeps : KeepsLives c run past (Admit w r (Incarnate n)) =
      subst (λ x. KeepsLives c run past x) is (has_lifetime c run limit (e ∷ past) given alone within legal).kept.0 in keeps.1 n refl)

  pub begun_worked : (h : List Entry) → IsLegal c run limit h → (a : Activation) → In a (standing c run h).activations → a.phase ≡ Begun → (w : ℕ) × (r : ℕ)
      × (stage h w ≡ Incarnating r a.number)
  begun_worked [] legal a there phase =
      absurd (let opens = (all_open c run a there).1 in let f : Complete (NamedServant opens.0) ≡ Begun = sym opens.1 ∙ phase in cc)
  begun_worked (e ∷ past) legal b there phase =
      elim (activation_from c run past e b there) [
        | activation_begun fresh ↦ elim fresh.how [
          | incarnating w r n key is has adapter path oid at ↦ (
            w,
            r,
            ap (λ z. stage (z ∷ past) w) is
                ∙ (own w (Incarnating r n) (stage past w) ∙ ap (λ m. Incarnating r m) (next_number past e legal w r n is ∙ sym fresh.number)),
          )
          | activating p servant done adapter path oid at ↦ absurd (servant_phase c servant (sym at ∙ phase))
          | activating_id p oid servant done adapter path of_id at ↦ absurd (servant_phase c servant (sym at ∙ phase))
          | referring p servant n k done lives known implicit adapter path oid at ↦ absurd (servant_phase c servant (sym at ∙ phase))
        ]
        | activation_stood a was step ↦ elim step.came [
          | inr came ↦ absurd (phase_ended c a.number came.1.answer (came.1.phase_is ∙ phase))
          | inl kept ↦ (let before = begun_worked past legal.1 a was (sym kept ∙ phase) in
              elim (incarnating_after c run limit past e legal.0 before.0 before.1 a.number before.2) [
                | inl stays ↦ (before.0, before.1, stays ∙ ap (λ m. Incarnating before.1 m) (sym step.later.number))
                | inr ended ↦ absurd (incarnated_phase c run past before.0 before.1 a.number e ended.0 before.2 ended.1 b there step.later.number phase)
              ])
        ]
      ]

  pub removal_worked : (h : List Entry) → IsLegal c run limit h → (a : Activation) → In a (standing c run h).activations → has_activator c a.path ≡ true
      → a.out ≡ true → a.quiet ≡ false → a.etherealized ≡ false → (w : ℕ) × (stage h w ≡ Removing a.number)
  removal_worked [] legal a there activator out loud untold = absurd (true≢false (sym out ∙ (all_open c run a there).0))
  removal_worked (e ∷ past) legal b there activator out loud untold =
      elim (activation_from c run past e b there) [
        | activation_begun fresh ↦ absurd (true≢false (sym out ∙ fresh.out))
        | activation_stood a was step ↦ (let loud' : a.quiet ≡ false = false_from_ne_true a.quiet (λ quiet. true≢false (sym (step.later.quiet quiet) ∙ loud)) in
            elim (step.out_back out) [
              | inl before ↦
                  (let worked =
                  removal_worked past legal.1 a was (ap (has_activator c) (sym step.later.path) ∙ activator) before loud'
                  (false_from_ne_true a.etherealized (λ told. true≢false (sym (step.later.etherealized told) ∙ untold))) in
                  elim (removing_after c run limit past e legal.0 worked.0 a.number worked.1) [
                    | inl stays ↦ (worked.0, stays ∙ ap (λ m. Removing m) (sym step.later.number))
                    | inr ended ↦
                        absurd (true≢false
                        (sym (told_after c run past worked.0 a.number e ended.0 ended.1 worked.1 ended.2 b there step.later.number) ∙ untold))
                  ])
              | inr other ↦ elim other [
                | inl leaves ↦ absurd (true≢false (sym activator ∙ leaves.0))
                | inr takes ↦ (let it = takeout_is c run past takes.0 a.number takes.1 (subst (λ x. MayFollow c run limit past x) takes.2 legal.0) in
                    let same : it.it ≡ a = (legal_sound c run limit past given within legal.1).activation_alone it.it a it.there was it.numbered in
                    let tells : takes.1 ≡ true = sym it.told ∙ ap not (ap (λ x. x.quiet) same ∙ loud') in (
                      takes.0,
                      ap (λ z. stage (z ∷ past) takes.0) (takes.2 ∙ ap (λ x. TakeOut takes.0 a.number x) tells)
                          ∙ (own takes.0 (Removing a.number) (stage past takes.0) ∙ ap (λ m. Removing m) (sym step.later.number)),
                    ))
              ]
            ])
      ]
