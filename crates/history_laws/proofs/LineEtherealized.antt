-- A servant that is etherealized hands the one line to what is stored.
use Rattle.history_laws.proofs.Begun.{told_after}
use Rattle.history_laws.proofs.Incarnations.{all_fresh, one_alone}
use Rattle.history_laws.proofs.KindKept.{line_kept, restored_same}
use Rattle.history_laws.proofs.Line.{Carries, IsLine, carried_before, still}
use Rattle.history_laws.specs.OneLine.{AreIncarnated, BringsFresh, line_state}
use Rattle.poa_base.specs.declared.Config.{Config}
use Rattle.poa_base.specs.declared.Entry.{Entry}
use Rattle.poa_base.specs.declared.Entry.TheVariants.{Etherealized, Incarnated}
use Rattle.poa_base.specs.declared.Kind.{Kind}
use Rattle.poa_base.specs.declared.Sid.{Sid}
use Rattle.poa_base.specs.declared.Sid.TheVariants.{Fresh as FreshServant}
use Rattle.poa_base.specs.declared.State.{State}
use Rattle.poa_history.proofs.ActivationsFrom.{Brings, Tells}
use Rattle.poa_history.proofs.LegalSound.{legal_sound}
use Rattle.poa_history.proofs.MannedKept.{all_manned}
use Rattle.poa_history.proofs.OutIs.{out_complete}
use Rattle.poa_history.proofs.TurnTells.{IsRemoval, removal_is}
use Rattle.poa_history.specs.Alone.{IsGivenAlone}
use Rattle.poa_history.specs.Bounds.{IsWithinLimits}
use Rattle.history_standing.specs.Changes.{standing}
use Rattle.poa_history.specs.InFlight.{Holds, IsManned}
use Rattle.poa_history.specs.Legal.{IsLegal}
use Rattle.poa_history.specs.Sound.{IsGiven, IsSound}
use Rattle.history_standing.specs.Stages.{stage}
use Rattle.history_standing.specs.Standings.{Standing}
use Rattle.poa_history.specs.States.{Stored, fresh_only, is_stored_by, restored, state_of, stored}
use Rattle.history_standing.specs.declared.activation.Activation.{Activation}
use Rattle.history_standing.specs.declared.activation.Phase.{Phase}
use Rattle.history_standing.specs.declared.activation.Phase.TheVariants.{Begun, Complete, Void}
use Rattle.history_standing.specs.declared.stage.Stage.TheVariants.{Removing}
use Rattle.history_standing.proofs.Finding.{find_in, path_same, same_path_self}
use Rattle.history_standing.proofs.Leading.{bytes_same, same_self}
use Rattle.history_standing.specs.Paths.{same_bytes, same_path}
use Rattle.history_standing.specs.Trees.{In}
use Rattle.std.proofs.Common.{◌∙◌, ap, ap₂, inl, inr, subst, sym}
use Rattle.std.proofs.lemmas.Bool.{and_parts, cases_Bool, eqb-true, true≢false}
use Rattle.std.specs.Prelude.{◌&&◌, ◌==◌, ◌∷◌, ◌≡◌, Bool, List, None, Option, Some, false, if◌then◌else◌, refl, true, ℕ}

module _ (c : Config) (run limit : ℕ) (given : IsGiven c run) (alone : IsGivenAlone c run) (within : IsWithinLimits c limit) (opened : Stored) (kind : Kind)
    (p : List (List ℕ)) (oid : List ℕ) (brings_ : BringsFresh c p oid kind) (past : List Entry) (w : ℕ) (cleanup remaining : Bool)
    (legal : IsLegal c run limit (Etherealized w cleanup remaining ∷ past)) (are : AreIncarnated c run past p oid)
    (is : IsLine c run opened kind p oid past) where
  abbrev s : Standing
  s = standing c run past

  abbrev e : Entry
  e = Etherealized w cleanup remaining

  sound : IsSound c run s
  sound = legal_sound c run limit past given within legal.1

  manned_ : IsManned c run past
  manned_ = all_manned c run limit past given alone within legal.1

  turn_is : IsRemoval c run past w cleanup remaining
  turn_is = removal_is c run past w cleanup remaining legal.0

  abbrev it : Activation
  it = turn_is.it

  it_in : In it s.activations
  it_in = (find_in (λ x. x.number == turn_is.number) it s.activations turn_is.found).0

  it_number : it.number ≡ turn_is.number
  it_number = eqb-true it.number turn_is.number (find_in (λ x. x.number == turn_is.number) it s.activations turn_is.found).1

  it_holds : (it.out ≡ true) × (it.etherealized ≡ false)
  it_holds =
      let holds : Holds past s (Removing turn_is.number) = subst (λ b. Holds past s b) turn_is.begun (manned_.stages w) in
      let same = sound.activation_alone it holds.0 it_in holds.1 (it_number ∙ sym holds.2) in
      (ap (λ x. x.out) same ∙ holds.3, ap (λ x. x.etherealized) same ∙ holds.5)

  no_brings : (a : Activation) → In a s.activations → a.path ≡ p → a.oid ≡ oid → (phase : Phase) → Brings c run past s e a.number phase → ⊥
  no_brings a there on_path on_oid phase b = (let f : Etherealized w cleanup remaining ≡ Incarnated b.worker b.answer = b.same in cc)

  -- what the entry etherealizes is that activation
  tells_it : (a : Activation) → In a s.activations → Tells c run past s e a.number → a ≡ it
  tells_it a there tells =
      let f : Etherealized w cleanup remaining ≡ Etherealized tells.0 tells.1 tells.2 = tells.3 in
      let worker : w ≡ tells.0 = cc in
      let g : Removing turn_is.number ≡ Removing a.number = sym turn_is.begun ∙ (ap (stage past) worker ∙ tells.4) in
      let number : turn_is.number ≡ a.number = cc in
      sound.activation_alone a it there it_in (sym number ∙ sym it_number)

  abbrev of_pair : Bool
  of_pair = same_path it.path p && same_bytes it.oid oid

  -- the servant whose state is stored
  stored_by : is_stored_by s (stage past w) p oid ≡ (if of_pair then (elim it.phase [ Complete t ↦ fresh_only t | Begun ↦ None | Void ↦ None ]) else None)
  stored_by =
      ap (λ b. is_stored_by s b p oid) turn_is.begun
      ∙ ap (λ o. elim o as (λ _. Option Sid) [
        | None ↦ None
        | Some a ↦ (if same_path a.path p && same_bytes a.oid oid then (elim a.phase [ Complete t ↦ fresh_only t | Begun ↦ None | Void ↦ None ]) else None)
      ]) turn_is.found

  stored_as : (o : Option Sid) → is_stored_by s (stage past w) p oid ≡ o
      → stored c run opened (e ∷ past) p oid ≡
      (elim o as (λ _. Option State) [ Some t ↦ Some (state_of c run opened past t) | None ↦ stored c run opened past p oid ])
  stored_as o same = ap (λ x. elim x as (λ _. Option State) [ Some t ↦ Some (state_of c run opened past t) | None ↦ stored c run opened past p oid ]) same

  -- an etherealization of another id leaves the line
  told_off : of_pair ≡ false → IsLine c run opened kind p oid (e ∷ past)
  told_off off =
      still c run limit opened kind p oid past e sound is no_brings
      (λ a there on_path on_oid tells. (let same = tells_it a there tells in
      true≢false
      (sym (ap₂ (λ x y. x && y) (ap (λ q. same_path q p) (ap (λ x. x.path) (sym same) ∙ on_path) ∙ same_path_self p)
      (ap (λ i. same_bytes i oid) (ap (λ x. x.oid) (sym same) ∙ on_oid) ∙ same_self oid)) ∙ off)))
      (λ a carries. refl)
      (stored_as None (stored_by ∙ ap (λ b. if b then (elim it.phase [ Complete t ↦ fresh_only t | Begun ↦ None | Void ↦ None ]) else None) off))
      refl refl

  module _ (on : of_pair ≡ true) where
    on_path : it.path ≡ p
    on_path = path_same it.path p (and_parts (same_path it.path p) (same_bytes it.oid oid) on).0

    on_oid : it.oid ≡ oid
    on_oid = bytes_same it.oid oid (and_parts (same_path it.path p) (same_bytes it.oid oid) on).1

    carries_it : Carries s p oid it
    carries_it = record {
      there = it_in;
      on_path = on_path;
      on_oid = on_oid;
      complete = elim (all_fresh c p oid kind brings_ run limit given alone within past legal.1 are it it_in on_path on_oid) [
        | inr complete ↦ complete
        | inl begun ↦
            absurd (true≢false
            (sym (out_complete c run limit given alone within past legal.1 it it_in it_holds.0)
            ∙ ap (λ q. elim q as (λ _. Bool) [ Complete t ↦ true | Begun ↦ false | Void ↦ false ]) begun))
      ];
      untold = it_holds.1;
    }

    abbrev L : State
    L = line_state opened kind past p oid

    stored_is : stored c run opened (e ∷ past) p oid ≡ Some L
    stored_is =
        stored_as (Some (FreshServant it.number))
        (stored_by ∙ (ap (λ b. if b then (elim it.phase [ Complete t ↦ fresh_only t | Begun ↦ None | Void ↦ None ]) else None) on
        ∙ ap (λ q. elim q as (λ _. Option Sid) [ Complete t ↦ fresh_only t | Begun ↦ None | Void ↦ None ]) carries_it.complete))
        ∙ ap (λ x. Some x) (is.carried it carries_it)

    told_on : IsLine c run opened kind p oid (e ∷ past)
    told_on = record {
      carried = λ b carries. absurd (let before = carried_before c run limit opened kind p oid past e b carries in
          elim before.3 [
            | inr came ↦ no_brings before.0 before.1 (sym before.2.later.path ∙ carries.on_path) (sym before.2.later.oid ∙ carries.on_oid) b.phase came.1
            | inl was ↦
                (let same =
                one_alone c p oid kind brings_ run limit given alone within past legal.1 are before.0 it was.there it_in was.on_path was.on_oid on_path on_oid
                was.untold it_holds.1 in
                true≢false
                (sym (told_after c run past w turn_is.number e cleanup remaining turn_is.begun refl b carries.there
                (before.2.later.number ∙ (ap (λ x. x.number) same ∙ it_number))) ∙ carries.untold))
          ]);
      kept = λ _. ap (restored kind) stored_is ∙ restored_same kind L (line_kept opened kind past p oid);
      told = λ b there at_path at_oid told. (L, stored_is, line_kept opened kind past p oid);
      line = is.line;
    }

  pub line_etherealized : IsLine c run opened kind p oid (e ∷ past)
  line_etherealized = elim (cases_Bool of_pair) [ inl on ↦ told_on on | inr off ↦ told_off off ]
