-- Which commands wait for an answer.
use Rattle.poa_base.specs.declared.Answer.TheVariants.{Good, GoodIor}
use Rattle.poa_base.specs.declared.Command.{Command}
use Rattle.poa_base.specs.declared.Command.TheVariants.{Activate, ActivateId, Bad as BadLine, Create, Deactivate, Destroy, Forward as ForwardLine, Manager, Preset as PresetLine, Reference, Shutdown, Unforward}
use Rattle.poa_base.specs.declared.Config.{Config}
use Rattle.poa_base.specs.declared.Entry.{Entry}
use Rattle.poa_base.specs.declared.Order.{Order}
use Rattle.poa_base.specs.declared.Reason.TheVariants.{AdapterAlreadyExists, AdapterInactive, AdapterNonExistent, BadId, BadWord, NoForward, NoManager, NoServant, NoTemplate, ObjectAlreadyActive, ObjectNotActive, ServantAlreadyActive, ServantNotActive, TooMany, WrongPolicy}
use Rattle.poa_base.specs.declared.Verdict.{Verdict}
use Rattle.poa_base.specs.declared.Verdict.TheVariants.{Answer as AnswerNow, Wait}
use Rattle.poa_choose.specs.Table.{first_row}
use Rattle.poa_choose.specs.declared.Choice.{Choice}
use Rattle.poa_choose.specs.declared.Choice.TheVariants.{Go}
use Rattle.poa_choose.specs.declared.Facts.{Facts}
use Rattle.poa_history.proofs.TableTells.{AsksAlone, adapter as asks_adapter, asked, servant as asks_servant}
use Rattle.history_standing.specs.Commands.{activate_id_row, command_verdict, create_row, good, good_or_wait, is_bad_id, is_implicit, is_inactive, is_taken, live_at, manager_row, reference_row, referred, refusal, waits, with_live, with_servant}
use Rattle.history_standing.specs.Ends.{is_over}
use Rattle.history_standing.specs.Logs.{endpoint_of, manager_state}
use Rattle.history_standing.specs.Opening.{made_id}
use Rattle.history_standing.specs.References.{reference_text}
use Rattle.poa_history.specs.Replies.{asks, is_waiting}
use Rattle.history_standing.specs.Standings.{Standing, is_active, is_of, is_tried}
use Rattle.history_standing.specs.Templates.{makes_ids, manager_number, policies_at, retains, servant_number, template, uses_default_servant}
use Rattle.history_standing.specs.Nodes.{node_at}
use Rattle.history_standing.specs.Paths.{parent_path}
use Rattle.history_standing.specs.declared.node.Node.{Node}
use Rattle.std.proofs.Common.{◌∙◌, ap, inl, inr, sym}
use Rattle.std.proofs.lemmas.Bool.{cases_Bool, cond_both, true≢false}
use Rattle.std.specs.List.{list_any}
use Rattle.std.specs.Prelude.{◌&&◌, ◌∷◌, ◌≡◌, Bool, List, None, Option, Some, [], false, if◌then◌else◌, is_none, is_some, nat_le, not, refl, suc, true, ℕ}

abbrev is_wait : Choice → Bool
is_wait (Go Wait) = true
is_wait choice = false

wait_alone : AsksAlone is_wait
wait_alone = record {
  no_held = λ cause. refl;
  no_refuse = λ e. refl;
  no_unknown = refl;
  no_forward = λ e. refl;
  no_addressing = refl;
  no_here = refl;
  no_serve = λ n. refl;
  no_preset = λ s. refl;
  no_locator = λ s. refl;
}

-- the table gives none of them
pub never_waits : (f : Facts) (w : ℕ) → first_row f w ≡ Go Wait → ⊥
never_waits f w row = elim (asked is_wait wait_alone f w (ap is_wait row)) [
  | asks_servant found slot asks ↦ (let e : false ≡ true = asks.passes in cc)
  | asks_adapter missing untried passes ↦ (let e : false ≡ true = passes in cc)
]

abbrev Quick : Option Verdict → Type 0
Quick o = is_waiting o ≡ false

quick_if : (b : Bool) (x y : Option Verdict) → Quick x → Quick y → Quick (if b then x else y)
quick_if b x y one other = cond_both b x y Quick (λ _. one) (λ _. other)

quick_live : (s : Standing) (p : List (List ℕ)) (then_ : Node → Option Verdict) → ((n : Node) → Quick (then_ n)) → Quick (with_live s p then_)
quick_live s p then_ each =
    elim (live_at s p) as (λ o. Quick (elim o [ Some n ↦ then_ n | None ↦ refusal AdapterNonExistent ])) [ Some n ↦ each n | None ↦ refl ]

quick_known : (c : Config) (name : List ℕ) (then_ : ℕ → Option Verdict) → ((k : ℕ) → Quick (then_ k)) → Quick (with_servant c name then_)
quick_known c name then_ each =
    elim (servant_number c name) as (λ o. Quick (elim o [ Some k ↦ then_ k | None ↦ refusal NoServant ])) [ Some k ↦ each k | None ↦ refl ]

module _ (c : Config) (run : ℕ) (past : List Entry) (s : Standing) where
  -- a command that waits orders a manager that there is, or destroys an adapter that lives
  pub data WaitsFor (d : Command) : Type 0 where
    waits_order : (name : List ℕ) (order : Order) (m : ℕ) → d ≡ Manager name order → manager_number c name ≡ Some m → waits order ≡ true → WaitsFor d
    waits_destroy : (p : List (List ℕ)) (etherealize wait : Bool) (n : Node) → d ≡ Destroy p etherealize wait → live_at s p ≡ Some n → WaitsFor d

  quick : {A : Type 0} {o : Option Verdict} → Quick o → o ≡ Some Wait → A
  quick none is = absurd (true≢false (sym (ap is_waiting is) ∙ none))

  create_quick : (p : List (List ℕ)) → Quick (create_row c s p)
  create_quick [] = refl
  create_quick (x ∷ p) =
      quick_live s (parent_path (x ∷ p)) _ (λ n. quick_if (is_none (template c (x ∷ p))) (refusal NoTemplate) _ refl
      (quick_if (is_tried s.flights (x ∷ p)) None _ refl
      (elim (node_at s.nodes (x ∷ p)) as (λ o. Quick
      (elim o [
        | Some old ↦ (if old.dying then None else refusal AdapterAlreadyExists)
        | None ↦
            (if nat_le 65536 s.count then refusal (TooMany s.count) else good)
      ])) [
        | Some old ↦ quick_if old.dying None (refusal AdapterAlreadyExists) refl refl
        | None ↦ quick_if (nat_le 65536 s.count) (refusal (TooMany s.count)) good refl refl
      ])))

  activate_id_quick : (p : List (List ℕ)) (oid servant : List ℕ) → Quick (activate_id_row c run s p oid servant)
  activate_id_quick p oid servant =
      quick_live s p _ (λ n. quick_if (not (retains (policies_at c p))) (refusal WrongPolicy) _ refl
      (quick_known c servant _ (λ k. quick_if (is_bad_id c run s.made p oid) (refusal BadId) _ refl
      (quick_if (list_any (λ a. is_of n.number oid a && is_active a) s.activations) (refusal ObjectAlreadyActive) _ refl
      (quick_if (list_any (λ a. is_of n.number oid a && not (is_over c a)) s.activations) None _ refl
      (quick_if (is_taken c s n k) (refusal ServantAlreadyActive) good refl refl))))))

  reference_quick : (p : List (List ℕ)) (servant : List ℕ) → Quick (reference_row c run s p servant)
  reference_quick p servant =
      quick_live s p _ (λ n. quick_known c servant _ (λ k.
      elim (referred c s n k) as (λ o. Quick (elim o [
        | Some a ↦ Some (AnswerNow (GoodIor (reference_text c run n.number p a.oid k)))
        | None ↦
            (if is_implicit c s n k then Some (AnswerNow (GoodIor (reference_text c run n.number p (made_id run (suc s.made)) k))) else refusal
            ServantNotActive)
      ])) [ Some a ↦ refl | None ↦ quick_if (is_implicit c s n k) _ (refusal ServantNotActive) refl refl ]))

  manager_waits : (name : List ℕ) (order : Order) → manager_row c past name order ≡ Some Wait → WaitsFor (Manager name order)
  manager_waits name order =
      elim (manager_number c name) as (λ o. manager_number c name ≡ o
      → (elim o
      [ None ↦ refusal NoManager | Some m ↦ (if is_inactive (manager_state c past m) then refusal AdapterInactive else good_or_wait (waits order)) ]) ≡ Some
      Wait → WaitsFor (Manager name order)) [
        | None ↦ λ _. quick refl
        | Some m ↦
            λ found. cond_both (is_inactive (manager_state c past m)) (refusal AdapterInactive) (good_or_wait (waits order))
            (λ o. o ≡ Some Wait → WaitsFor (Manager name order)) (λ _. quick refl)
            (λ _ is. elim (cases_Bool (waits order)) [
              | inl waits_ ↦ waits_order name order m refl found waits_
              | inr quick_ ↦ quick {o = Some (AnswerNow Good)} refl (ap (λ b. Some (if b then Wait else AnswerNow Good)) (sym quick_) ∙ is)
            ])
      ] refl

  destroy_waits : (p : List (List ℕ)) (etherealize wait : Bool) → with_live s p (λ n. good_or_wait wait) ≡ Some Wait → WaitsFor (Destroy p etherealize wait)
  destroy_waits p etherealize wait =
      elim (live_at s p) as (λ o. live_at s p ≡ o → (elim o [ Some n ↦ good_or_wait wait | None ↦ refusal AdapterNonExistent ]) ≡ Some Wait
      → WaitsFor (Destroy p etherealize wait))
      [ Some n ↦ λ lives _. waits_destroy p etherealize wait n refl lives | None ↦ λ _. quick refl ] refl

  pub waits_for : (d : Command) → command_verdict c run past s d ≡ Some Wait → WaitsFor d
  unfolding command_verdict
  waits_for (Manager name order) is = manager_waits name order is
  waits_for (Destroy p etherealize wait) is = destroy_waits p etherealize wait is
  waits_for (Create p) is = quick (create_quick p) is
  waits_for (Activate p servant) is =
      quick (quick_live s p _
      (λ n. quick_if (not (retains (policies_at c p) && makes_ids (policies_at c p))) (refusal WrongPolicy) _ refl
      (quick_known c servant _ (λ k. quick_if (is_taken c s n k) (refusal ServantAlreadyActive) _ refl refl)))) is
  waits_for (ActivateId p oid servant) is = quick (activate_id_quick p oid servant) is
  waits_for (Deactivate p oid) is =
      quick (quick_live s p _
      (λ n. quick_if (not (retains (policies_at c p))) (refusal WrongPolicy) _ refl
      (quick_if (list_any (λ a. is_of n.number oid a && is_active a) s.activations) good (refusal ObjectNotActive) refl refl))) is
  waits_for (Reference p servant) is = quick (reference_quick p servant) is
  waits_for (PresetLine p servant) is =
      quick (quick_live s p _ (λ n. quick_if (not (uses_default_servant (policies_at c p))) (refusal WrongPolicy) _ refl (quick_known c servant _ (λ k. refl))))
      is
  waits_for (ForwardLine p endpoint) is = quick {o = good} refl is
  waits_for (Unforward p) is = quick (quick_if (is_some (endpoint_of c past p)) good (refusal NoForward) refl refl) is
  waits_for Shutdown is = quick (quick_live s [] _ (λ n. refl)) is
  waits_for (BadLine word) is = quick {o = refusal (BadWord word)} refl is
