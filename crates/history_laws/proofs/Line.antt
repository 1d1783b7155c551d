-- The invariant of one line.
use Rattle.history_laws.specs.OneLine.{IsOneLine, calls_on, line_opening, line_state, replies_by, replies_on, state_after}
use Rattle.poa_base.specs.declared.Config.{Config}
use Rattle.poa_base.specs.declared.Entry.{Entry}
use Rattle.poa_base.specs.declared.Kind.{Kind}
use Rattle.poa_base.specs.declared.Sid.TheVariants.{Fresh as FreshServant, Named as NamedServant}
use Rattle.poa_base.specs.declared.State.{State}
use Rattle.poa_history.proofs.ActivationsFrom.{Brings, IsStep, Tells, activating, activating_id, activation_from, begun as activation_begun, incarnating, referring, stood as activation_stood}
use Rattle.poa_history.proofs.ActivationsLater.{step_later}
use Rattle.poa_history.proofs.AloneKept.{of_servant}
use Rattle.history_standing.specs.Changes.{servant_of, standing}
use Rattle.poa_history.specs.Sound.{IsSound}
use Rattle.history_standing.specs.Standings.{Standing}
use Rattle.poa_history.specs.States.{Stored, is_of_kind, restored, state_of, stored}
use Rattle.history_standing.specs.declared.activation.Activation.{Activation}
use Rattle.history_standing.specs.declared.activation.Phase.{Phase}
use Rattle.history_standing.specs.declared.activation.Phase.TheVariants.{Begun, Complete}
use Rattle.history_standing.specs.Trees.{In}
use Rattle.std.proofs.Common.{◌∙◌, ap, inl, inr, subst, sym}
use Rattle.std.proofs.lemmas.Bool.{false_from_ne_true, true≢false}
use Rattle.std.specs.Prelude.{◌∷◌, ◌≡◌, ◌⊎◌, List, Some, false, true, ℕ}

-- the activation of the id that has its servant still
pub record Carries (s : Standing) (p : List (List ℕ)) (oid : List ℕ) (a : Activation) : Type 0 where
  pub there : In a s.activations
  pub on_path : a.path ≡ p
  pub on_oid : a.oid ≡ oid
  pub complete : a.phase ≡ Complete (FreshServant a.number)
  pub untold : a.etherealized ≡ false

pub record IsLine (c : Config) (run : ℕ) (opened : Stored) (kind : Kind) (p : List (List ℕ)) (oid : List ℕ) (h : List Entry) : Type 0 where
  -- its servant is in the state of the one servant
  pub carried : (a : Activation) → Carries (standing c run h) p oid a → state_of c run opened h (FreshServant a.number) ≡ line_state opened kind h p oid
  -- where there is none the next servant will open in that state
  pub kept : ((a : Activation) → Carries (standing c run h) p oid a → ⊥) → restored kind (stored c run opened h p oid) ≡ line_state opened kind h p oid
  -- where one was etherealized a state of the kind is stored
  pub told : (a : Activation) → In a (standing c run h).activations → a.path ≡ p → a.oid ≡ oid → a.etherealized ≡ true → (x : State)
      × (stored c run opened h p oid ≡ Some x) × (is_of_kind kind x ≡ true)
  pub line : IsOneLine c run opened kind h p oid

module _ (c : Config) (run limit : ℕ) (opened : Stored) (kind : Kind) (p : List (List ℕ)) (oid : List ℕ) (past : List Entry) (e : Entry) where
  abbrev s : Standing
  s = standing c run past

  abbrev t : Standing
  t = standing c run (e ∷ past)

  -- a servant of a name, or none, is no fresh one
  never_named : (name : List ℕ) (n : ℕ) → servant_of c name ≡ Complete (FreshServant n) → ⊥
  never_named name n is = (let k = of_servant c name (FreshServant n) is in let f : FreshServant n ≡ NamedServant k.0 = k.2 in cc)

  -- what carries after an entry did so before, or the entry brings it its servant
  pub carried_before : (b : Activation) → Carries t p oid b → (a : Activation) × In a s.activations × IsStep c run past s e a b
      × (Carries s p oid a ⊎ ((a.phase ≡ Begun) × Brings c run past s e a.number b.phase))
  carried_before b carries =
      elim (activation_from c run past e b carries.there) [
        | activation_begun fresh ↦ absurd (elim fresh.how [
          | incarnating w r n key is has adapter path of_id at ↦ (let f : Begun ≡ Complete (FreshServant b.number) = sym at ∙ carries.complete in cc)
          | activating q servant done adapter path of_id at ↦ never_named servant b.number (sym at ∙ carries.complete)
          | activating_id q i servant done adapter path of_id at ↦ never_named servant b.number (sym at ∙ carries.complete)
          | referring q servant n k done lives known implicit adapter path of_id at ↦ never_named servant b.number (sym at ∙ carries.complete)
        ])
        | activation_stood a was step ↦ (
          a,
          was,
          step,
          elim step.came [
            | inr came ↦ inr came
            | inl kept ↦ inl (record {
              there = was;
              on_path = sym step.later.path ∙ carries.on_path;
              on_oid = sym step.later.oid ∙ carries.on_oid;
              complete = sym kept ∙ (carries.complete ∙ ap (λ n. Complete (FreshServant n)) step.later.number);
              untold = false_from_ne_true a.etherealized (λ told. true≢false (sym (step.later.etherealized told) ∙ carries.untold));
            })
          ],
        )
      ]

  -- what carries goes on to, unless the entry etherealizes it
  pub carried_after : (sound : IsSound c run s) → (a : Activation) → Carries s p oid a → (Tells c run past s e a.number → ⊥) → (b : Activation)
      × Carries t p oid b × (b.number ≡ a.number)
  carried_after sound a carries untold =
      let (b, there, later) = step_later c run past e a carries.there in (
        b,
        record {
          there = there;
          on_path = later.path ∙ carries.on_path;
          on_oid = later.oid ∙ carries.on_oid;
          complete = later.served (FreshServant a.number) carries.complete ∙ ap (λ n. Complete (FreshServant n)) (sym later.number);
          untold = false_from_ne_true b.etherealized (λ told. elim (activation_from c run past e b there) [
            | activation_begun fresh ↦ true≢false (sym told ∙ fresh.etherealized)
            | activation_stood x was step ↦ (let same : x ≡ a = sound.activation_alone x a was carries.there (sym step.later.number ∙ later.number) in
                elim (step.told_back told) [
                  | inl before ↦ true≢false (sym before ∙ (ap (λ y. y.etherealized) same ∙ carries.untold))
                  | inr tells ↦ untold (subst (λ y. Tells c run past s e y.number) same tells)
                ])
          ]);
        },
        later.number,
      )

  -- what is etherealized was so before, or the entry etherealizes it
  pub told_then : (b : Activation) → In b t.activations → b.path ≡ p → b.oid ≡ oid → b.etherealized ≡ true → (a : Activation) × In a s.activations
      × (a.path ≡ p) × (a.oid ≡ oid) × ((a.etherealized ≡ true) ⊎ Tells c run past s e a.number)
  told_then b there on_path on_oid told =
      elim (activation_from c run past e b there) [
        | activation_begun fresh ↦ absurd (true≢false (sym told ∙ fresh.etherealized))
        | activation_stood a was step ↦ (a, was, sym step.later.path ∙ on_path, sym step.later.oid ∙ on_oid, step.told_back told)
      ]

  -- an entry that brings the id no servant, etherealizes none and runs none leaves the line
  pub still : IsSound c run s → IsLine c run opened kind p oid past
      → ((a : Activation) → In a s.activations → a.path ≡ p → a.oid ≡ oid → (phase : Phase) → Brings c run past s e a.number phase → ⊥)
      → ((a : Activation) → In a s.activations → a.path ≡ p → a.oid ≡ oid → Tells c run past s e a.number → ⊥)
      → ((a : Activation) → Carries s p oid a → state_of c run opened (e ∷ past) (FreshServant a.number) ≡ state_of c run opened past (FreshServant a.number))
      → stored c run opened (e ∷ past) p oid ≡ stored c run opened past p oid
      → calls_on (e ∷ past) p oid ≡ calls_on past p oid
      → replies_on c run opened (e ∷ past) p oid ≡ replies_on c run opened past p oid
      → IsLine c run opened kind p oid (e ∷ past)
  still sound is no_brings no_tells same_state same_stored same_calls same_replies = record {
    carried = λ b carries. (let before = carried_before b carries in
        elim before.3 [
          | inl was ↦ ap (λ n. state_of c run opened (e ∷ past) (FreshServant n)) before.2.later.number
              ∙ (same_state before.0 was ∙ (is.carried before.0 was ∙ sym same_line))
          | inr came ↦ absurd (no_brings before.0 before.1 (sym before.2.later.path ∙ carries.on_path) (sym before.2.later.oid ∙ carries.on_oid) b.phase came.1)
        ]);
    kept = λ none. ap (restored kind) same_stored
        ∙ (is.kept (λ a carries. (let after = carried_after sound a carries (no_tells a carries.there carries.on_path carries.on_oid) in none after.0 after.1))
        ∙ sym same_line);
    told = λ b there on_path on_oid told. (let before = told_then b there on_path on_oid told in
        elim before.4 [
          | inl was ↦ (let x = is.told before.0 before.1 before.2 before.3 was in (x.0, same_stored ∙ x.1, x.2))
          | inr tells ↦ absurd (no_tells before.0 before.1 before.2 before.3 tells)
        ]);
    line = same_replies ∙ (is.line ∙ ap (replies_by (line_opening opened kind p oid)) (sym same_calls));
  }
    where
      same_line : line_state opened kind (e ∷ past) p oid ≡ line_state opened kind past p oid
      same_line = ap (state_after (line_opening opened kind p oid)) same_calls
