-- A servant that is incarnated anew goes on with the one line.
use Rattle.history_laws.proofs.Incarnations.{brought_fresh, kind_is, one_alone}
use Rattle.history_laws.proofs.Line.{Carries, IsLine, carried_before, still, told_then}
use Rattle.history_laws.specs.OneLine.{AreIncarnated, BringsFresh}
use Rattle.poa_base.specs.declared.Config.{Config}
use Rattle.poa_base.specs.declared.Entry.{Entry}
use Rattle.poa_base.specs.declared.Entry.TheVariants.{Etherealized, Incarnated}
use Rattle.poa_base.specs.declared.Gives.{Gives}
use Rattle.poa_base.specs.declared.Gives.TheVariants.{Forward as GivesForward, Fresh as FreshKind, Raise as GivesRaise, Servant}
use Rattle.poa_base.specs.declared.Incarnation.{Incarnation}
use Rattle.poa_base.specs.declared.Incarnation.TheVariants.{Double, Forward as ForwardTo, Fresh, Named, Raise}
use Rattle.poa_base.specs.declared.Kind.{Kind}
use Rattle.poa_base.specs.declared.RuleConf.{RuleConf}
use Rattle.poa_base.specs.declared.Sid.TheVariants.{Fresh as FreshServant, Named as NamedServant}
use Rattle.poa_base.specs.declared.State.{State}
use Rattle.poa_base.specs.declared.State.TheVariants.{Fault}
use Rattle.poa_history.proofs.ActivationsFrom.{Brings, Tells}
use Rattle.poa_history.proofs.LegalSound.{legal_sound}
use Rattle.poa_history.proofs.MannedKept.{all_manned}
use Rattle.poa_history.proofs.OutIs.{out_complete}
use Rattle.poa_history.proofs.TurnTells.{IsIncarnation, incarnation_is}
use Rattle.poa_history.specs.Alone.{IsGivenAlone}
use Rattle.poa_history.specs.Bounds.{IsWithinLimits}
use Rattle.history_standing.specs.Changes.{standing}
use Rattle.poa_history.specs.InFlight.{Holds, IsManned}
use Rattle.poa_history.specs.Legal.{IsLegal}
use Rattle.history_standing.specs.Rules.{brought, brought_by, named_or_double, not_active, rule_for}
use Rattle.poa_history.specs.Sound.{IsGiven, IsSound}
use Rattle.history_standing.specs.Stages.{stage}
use Rattle.history_standing.specs.Standings.{Standing, is_in_map}
use Rattle.poa_history.specs.States.{Stored, kind_brought, restored, state_of, stored}
use Rattle.history_standing.specs.Templates.{is_unique, policies_at, rules_at, servant_name}
use Rattle.poa_history.specs.Turns.{activation_numbered}
use Rattle.history_standing.specs.declared.activation.Activation.{Activation}
use Rattle.history_standing.specs.declared.activation.Phase.{Phase}
use Rattle.history_standing.specs.declared.activation.Phase.TheVariants.{Begun, Complete, Void}
use Rattle.history_standing.specs.declared.stage.Stage.TheVariants.{Incarnating}
use Rattle.history_standing.proofs.Finding.{find_in, path_same, same_path_self}
use Rattle.history_standing.proofs.Leading.{bytes_same, same_self}
use Rattle.history_standing.specs.Paths.{same_bytes, same_path}
use Rattle.history_standing.specs.Trees.{In}
use Rattle.std.proofs.Common.{◌∙◌, ap, ap₂, inl, inr, subst, sym}
use Rattle.std.proofs.lemmas.Bool.{and_parts, cases_Bool, cond_both, eq-eqb, eqb-true, false_from_ne_true, true≢false}
use Rattle.std.specs.Prelude.{◌&&◌, ◌==◌, ◌∷◌, ◌≡◌, Bool, List, None, Option, Some, false, if◌then◌else◌, refl, true, ℕ}

module _ (c : Config) (run limit : ℕ) (given : IsGiven c run) (alone : IsGivenAlone c run) (within : IsWithinLimits c limit) (opened : Stored) (kind : Kind)
    (p : List (List ℕ)) (oid : List ℕ) (brings_ : BringsFresh c p oid kind) (past : List Entry) (w : ℕ) (answer : Incarnation)
    (legal : IsLegal c run limit (Incarnated w answer ∷ past)) (are : AreIncarnated c run past p oid) (is : IsLine c run opened kind p oid past) where
  abbrev s : Standing
  s = standing c run past

  abbrev e : Entry
  e = Incarnated w answer

  sound : IsSound c run s
  sound = legal_sound c run limit past given within legal.1

  manned_ : IsManned c run past
  manned_ = all_manned c run limit past given alone within legal.1

  turn_is : IsIncarnation c run past w answer
  turn_is = incarnation_is c run past w answer legal.0

  abbrev it : Activation
  it = turn_is.it

  it_in : In it s.activations
  it_in = (find_in (λ x. x.number == turn_is.number) it s.activations turn_is.found).0

  it_number : it.number ≡ turn_is.number
  it_number = eqb-true it.number turn_is.number (find_in (λ x. x.number == turn_is.number) it s.activations turn_is.found).1

  it_begun : it.phase ≡ Begun
  it_begun =
      let holds : Holds past s (Incarnating turn_is.arrival turn_is.number) = subst (λ b. Holds past s b) turn_is.begun (manned_.stages w) in
      let a = holds.2 in ap (λ x. x.phase) (sound.activation_alone it a.0 it_in a.1 (it_number ∙ sym a.2)) ∙ a.3

  -- what the entry brings its servant is that activation
  brings_it : (a : Activation) → In a s.activations → (phase : Phase) → Brings c run past s e a.number phase → a ≡ it
  brings_it a there phase b =
      let f : Incarnated w answer ≡ Incarnated b.worker b.answer = b.same in
      let worker : w ≡ b.worker = cc in
      let g : Incarnating turn_is.arrival turn_is.number ≡ Incarnating b.arrival a.number = sym turn_is.begun ∙ (ap (stage past) worker ∙ b.begun) in
      let number : turn_is.number ≡ a.number = cc in
      sound.activation_alone a it there it_in (sym number ∙ sym it_number)

  no_tells : (a : Activation) → In a s.activations → a.path ≡ p → a.oid ≡ oid → Tells c run past s e a.number → ⊥
  no_tells a there on_path on_oid tells = (let f : Incarnated w answer ≡ Etherealized tells.0 tells.1 tells.2 = tells.3 in cc)

  -- the fresh servant of an answer
  brought_number : (a : Activation) (m : ℕ) → brought c s a ≡ Fresh m → m ≡ a.number
  brought_number a m = by_rule (rule_for (rules_at c a.path) a.oid)
    where
      by_named : (k : ℕ) → named_or_double c s a k ≡ Fresh m → m ≡ a.number
      by_named k =
          elim (is_unique (policies_at c a.path) && is_in_map s.activations a.adapter (NamedServant k)) as (λ b.
          (elim b as (λ _. Incarnation)
          [ true ↦ Double | false ↦ elim (servant_name c k) as (λ _. Incarnation) [ Some name ↦ Named name | None ↦ Raise not_active ] ]) ≡ Fresh m
          → m ≡ a.number) [
            | true ↦ λ same. (let f : Double ≡ Fresh m = same in cc)
            | false ↦ elim (servant_name c k) as (λ o. (elim o as (λ _. Incarnation) [
              | Some name ↦ Named name
              | None ↦
                  Raise not_active
            ]) ≡ Fresh m → m ≡ a.number) [
              | Some name ↦ λ same. (let f : Named name ≡ Fresh m = same in cc)
              | None ↦ λ same. (let f : Raise not_active ≡ Fresh m = same in cc)
            ]
          ]

      by_gives : (g : Gives)
          → (elim g as (λ _. Incarnation) [
            | FreshKind k ↦ Fresh a.number
            | Servant k ↦ named_or_double c s a k
            | GivesForward endpoint ↦ ForwardTo endpoint
            | GivesRaise exception ↦ Raise exception
          ]) ≡ Fresh m → m ≡ a.number
      by_gives (FreshKind k) same = (let f : Fresh a.number ≡ Fresh m = same in cc)
      by_gives (Servant k) same = by_named k same
      by_gives (GivesForward endpoint) same = (let f : ForwardTo endpoint ≡ Fresh m = same in cc)
      by_gives (GivesRaise exception) same = (let f : Raise exception ≡ Fresh m = same in cc)

      by_rule : (o : Option RuleConf) → brought_by c s a o ≡ Fresh m → m ≡ a.number
      by_rule None same = (let f : Raise not_active ≡ Fresh m = same in cc)
      by_rule (Some rule) same = by_gives rule.gives same

  -- a servant that stood opens nothing anew
  state_stays : (a : Activation) → Carries s p oid a → (x : Incarnation) → brought c s it ≡ x
      → state_of c run opened (Incarnated w x ∷ past) (FreshServant a.number) ≡ state_of c run opened past (FreshServant a.number)
  state_stays a carries (Fresh m) brings_m =
      cond_both (a.number == m) _ (state_of c run opened past (FreshServant a.number)) (λ x. x ≡ state_of c run opened past (FreshServant a.number))
      (λ same. absurd (let at : a.number ≡ it.number = eqb-true a.number m same ∙ brought_number it m brings_m in
      let f : Complete (FreshServant a.number) ≡ Begun = sym carries.complete
      ∙ (ap (λ x. x.phase) (sound.activation_alone a it carries.there it_in at) ∙ it_begun) in cc))
      (λ _. refl)
  state_stays a carries (Named name) brings_m = refl
  state_stays a carries Double brings_m = refl
  state_stays a carries (ForwardTo x) brings_m = refl
  state_stays a carries (Raise x) brings_m = refl

  same_state : (a : Activation) → Carries s p oid a
      → state_of c run opened (e ∷ past) (FreshServant a.number) ≡ state_of c run opened past (FreshServant a.number)
  same_state a carries = state_stays a carries answer turn_is.told

  -- an incarnation of another id leaves the line
  incarnated_off : (it.path ≡ p → it.oid ≡ oid → ⊥) → IsLine c run opened kind p oid (e ∷ past)
  incarnated_off off =
      still c run limit opened kind p oid past e sound is
      (λ a there on_path on_oid phase b.
      (let same = brings_it a there phase b in off (ap (λ x. x.path) (sym same) ∙ on_path) (ap (λ x. x.oid) (sym same) ∙ on_oid)))
      no_tells same_state refl refl refl

  module _ (on_path : it.path ≡ p) (on_oid : it.oid ≡ oid) where
    untold : it.etherealized ≡ false
    untold = false_from_ne_true it.etherealized (λ told.
        let complete = out_complete c run limit given alone within past legal.1 it it_in (manned_.told_out it it_in told) in
        true≢false (sym complete ∙ ap (λ q. elim q as (λ _. Bool) [ Complete t ↦ true | Begun ↦ false | Void ↦ false ]) it_begun))

    -- while it was on its way in, none carried
    none_carried : (a : Activation) → Carries s p oid a → ⊥
    none_carried a carries =
        let same =
        one_alone c p oid kind brings_ run limit given alone within past legal.1 are a it carries.there it_in carries.on_path carries.on_oid on_path on_oid
        carries.untold untold in
        let f : Complete (FreshServant a.number) ≡ Begun = sym carries.complete ∙ (ap (λ x. x.phase) same ∙ it_begun) in cc

    answer_is : answer ≡ Fresh it.number
    answer_is = sym turn_is.told ∙ brought_fresh c p oid kind brings_ s it on_path on_oid

    -- the new servant opens in what is stored
    opens_in : state_of c run opened (e ∷ past) (FreshServant it.number) ≡ restored kind (stored c run opened past p oid)
    opens_in =
        ap (λ x. state_of c run opened (Incarnated w x ∷ past) (FreshServant it.number)) answer_is
        ∙ (ap (λ b. if b then elim (activation_numbered s it.number) as (λ _. State)
        [ Some a ↦ restored (kind_brought c a) (stored c run opened past a.path a.oid) | None ↦ Fault ] else state_of c run opened past
        (FreshServant it.number)) (eq-eqb it.number it.number refl)
        ∙ (ap (λ o. elim o as (λ _. State) [ Some a ↦ restored (kind_brought c a) (stored c run opened past a.path a.oid) | None ↦ Fault ])
        (ap (activation_numbered s) it_number ∙ turn_is.found)
        ∙ (ap (λ k. restored k (stored c run opened past it.path it.oid)) (kind_is c p oid kind brings_ it on_path on_oid)
        ∙ ap₂ (λ q i. restored kind (stored c run opened past q i)) on_path on_oid)))

    incarnated_on : IsLine c run opened kind p oid (e ∷ past)
    incarnated_on = record {
      carried = λ b carries. (let before = carried_before c run limit opened kind p oid past e b carries in
          elim before.3 [
            | inl was ↦ absurd (none_carried before.0 was)
            | inr came ↦ (let same = brings_it before.0 before.1 b.phase came.1 in
                ap (λ n. state_of c run opened (e ∷ past) (FreshServant n)) (before.2.later.number ∙ ap (λ x. x.number) same)
                ∙ (opens_in ∙ is.kept none_carried))
          ]);
      kept = λ _. is.kept none_carried;
      told = λ b there at_path at_oid told. (let before = told_then c run limit opened kind p oid past e b there at_path at_oid told in
          elim before.4 [
            | inl was ↦ is.told before.0 before.1 before.2 before.3 was
            | inr tells ↦ absurd (no_tells before.0 before.1 before.2 before.3 tells)
          ]);
      line = is.line;
    }

  pub line_incarnated : IsLine c run opened kind p oid (e ∷ past)
  line_incarnated =
      elim (cases_Bool (same_path it.path p && same_bytes it.oid oid)) [
        | inl on ↦
            (let parts = and_parts (same_path it.path p) (same_bytes it.oid oid) on in
            incarnated_on (path_same it.path p parts.0) (bytes_same it.oid oid parts.1))
        | inr off ↦
            incarnated_off
            (λ on_path on_oid. true≢false
            (sym (ap₂ (λ x y. x && y) (ap (λ q. same_path q p) on_path ∙ same_path_self p) (ap (λ i. same_bytes i oid) on_oid ∙ same_self oid)) ∙ off))
      ]
