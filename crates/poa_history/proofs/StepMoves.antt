-- A legal entry has what its change needs.
use Rattle.std.specs.Prelude.{◌≡◌, ℕ, suc, ◌^◌, ◌<◌, true, not, if◌then◌else◌, List, ◌∷◌, Option, Some, None, option_map, is_none, ◌&&◌, refl}
use Rattle.std.proofs.Common.{inl, inr, sym, subst, ap, ◌∙◌}
use Rattle.std.proofs.lemmas.Bool.{cases_Bool, and_parts}
use Rattle.poa_base.specs.declared.Config.{Config}
use Rattle.poa_base.specs.declared.Key.{Key}
use Rattle.poa_base.specs.declared.Call.{Call}
use Rattle.poa_base.specs.declared.Call.TheVariants.{Request, Locate, Line}
use Rattle.poa_base.specs.declared.Command.{Command}
use Rattle.poa_base.specs.declared.Command.TheVariants.{Manager, Create, Destroy, Activate, ActivateId, Deactivate, Reference, Preset, Forward, Unforward, Shutdown, Bad}
use Rattle.poa_base.specs.declared.Attempt.TheVariants.{Yes}
use Rattle.poa_base.specs.declared.Entry.{Entry}
use Rattle.poa_base.specs.declared.Entry.TheVariants.{Entered, Arrive, Filled, Left, Collect, Admit, Tried, Incarnated, Run, Done, TakeOut, Etherealized, Abandon}
use Rattle.poa_base.specs.declared.Verdict.{Verdict}
use Rattle.poa_choose.specs.declared.Choice.{Choice}
use Rattle.poa_choose.specs.declared.Choice.TheVariants.{Go, Held}
use Rattle.poa_choose.specs.Table.{first_row}
use Rattle.history_standing.specs.declared.node.Node.{Node}
use Rattle.history_standing.specs.declared.activation.Activation.{Activation}
use Rattle.history_standing.specs.declared.stage.Stage.{Stage}
use Rattle.history_standing.specs.declared.stage.Stage.TheVariants.{Free, Trying, Incarnating, Serving, Ran, Removing}
use Rattle.history_standing.specs.Templates.{policies_at, retains, activates_implicitly}
use Rattle.history_standing.specs.Arrivals.{call_of, is_locate, target_of}
use Rattle.history_standing.specs.Stages.{stage, arrival_in}
use Rattle.history_standing.specs.Standings.{Standing}
use Rattle.history_standing.specs.Walks.{walk}
use Rattle.history_standing.specs.Keys.{key_in}
use Rattle.history_standing.specs.Logs.{is_accepted, command_in, command_done}
use Rattle.history_standing.specs.Commands.{live_at, is_implicit, command_verdict, referred}
use Rattle.history_standing.specs.Changes.{changed, standing, child_tried}
use Rattle.history_standing.specs.Situations.{key_fact, key_or_none, is_crowded, facts_met, facts_of}
use Rattle.poa_history.specs.Verdicts.{chosen, verdict_on, verdict}
use Rattle.history_standing.specs.Rules.{brought}
use Rattle.poa_history.specs.Turns.{attempt, going_on, activation_numbered}
use Rattle.poa_history.specs.Legal.{IsTurn, MayFollow}
use Rattle.poa_history.specs.Sound.{IsSound, ImplicitMakes}
use Rattle.poa_history.proofs.TurnIs.{goes_on, takes, admits, turned}
use Rattle.poa_history.proofs.VerdictMoves.{may_admit}
use Rattle.poa_history.proofs.CommandMoves.{live_tells, FreshIds, NextFits, may_create, may_activate, may_activate_id, may_reference}
use Rattle.poa_history.proofs.TrialMoves.{may_make}
use Rattle.poa_history.proofs.IdsMade.{fresh_ids, next_fits}
use Rattle.poa_history.proofs.ChangeSound.{MayAdmit, MayDo, MayMake, MayMove, changed_sound}
use Rattle.poa_history.proofs.SettledKept.{settled_sound}

-- what was begun goes on without an Admit
no_admit : (c : Config) (s : Standing) (w r : ℕ) (v : Verdict) (begun : Stage) → going_on c s w begun ≡ Some (Admit w r v) → ⊥
no_admit c s w r v Free is = (let e : None ≡ Some (Admit w r v) = is in cc)
no_admit c s w r v (Trying q) is = (let e : Some (Tried w (attempt c s q)) ≡ Some (Admit w r v) = is in cc)
no_admit c s w r v (Incarnating q n) is = by_activation (activation_numbered s n) is
  where
    by_activation : (o : Option Activation) → option_map (λ a. Incarnated w (brought c s a)) o ≡ Some (Admit w r v) → ⊥
    by_activation None none = (let e : None ≡ Some (Admit w r v) = none in cc)
    by_activation (Some a) some_ = (let e : Some (Incarnated w (brought c s a)) ≡ Some (Admit w r v) = some_ in cc)
no_admit c s w r v (Serving q) is = (let e : Some (Run w) ≡ Some (Admit w r v) = is in cc)
no_admit c s w r v (Ran q) is = (let e : Some (Done w) ≡ Some (Admit w r v) = is in cc)
no_admit c s w r v (Removing n) is = by_activation (activation_numbered s n) is
  where
    by_activation : (o : Option Activation) → option_map (λ a. Etherealized w a.cleanup a.remaining) o ≡ Some (Admit w r v) → ⊥
    by_activation None none = (let e : None ≡ Some (Admit w r v) = none in cc)
    by_activation (Some a) some_ = (let e : Some (Etherealized w a.cleanup a.remaining) ≡ Some (Admit w r v) = some_ in cc)

-- an answer of an adapter activator goes on with a trial
only_trial : (c : Config) (s : Standing) (w k : ℕ) (begun : Stage) → going_on c s w begun ≡ Some (Tried w (Yes k)) → (r : ℕ) × (begun ≡ Trying r)
    × (attempt c s r ≡ Yes k)
only_trial c s w k Free is = absurd (let e : None ≡ Some (Tried w (Yes k)) = is in cc)
only_trial c s w k (Trying q) is = (q, refl, (let e : Some (Tried w (attempt c s q)) ≡ Some (Tried w (Yes k)) = is in cc))
only_trial c s w k (Incarnating q n) is = absurd (by_activation (activation_numbered s n) is)
  where
    by_activation : (o : Option Activation) → option_map (λ a. Incarnated w (brought c s a)) o ≡ Some (Tried w (Yes k)) → ⊥
    by_activation None none = (let e : None ≡ Some (Tried w (Yes k)) = none in cc)
    by_activation (Some a) some_ = (let e : Some (Incarnated w (brought c s a)) ≡ Some (Tried w (Yes k)) = some_ in cc)
only_trial c s w k (Serving q) is = absurd (let e : Some (Run w) ≡ Some (Tried w (Yes k)) = is in cc)
only_trial c s w k (Ran q) is = absurd (let e : Some (Done w) ≡ Some (Tried w (Yes k)) = is in cc)
only_trial c s w k (Removing n) is = absurd (by_activation (activation_numbered s n) is)
  where
    by_activation : (o : Option Activation) → option_map (λ a. Etherealized w a.cleanup a.remaining) o ≡ Some (Tried w (Yes k)) → ⊥
    by_activation None none = (let e : None ≡ Some (Tried w (Yes k)) = none in cc)
    by_activation (Some a) some_ = (let e : Some (Etherealized w a.cleanup a.remaining) ≡ Some (Tried w (Yes k)) = some_ in cc)

pub chosen_go : (choice : Choice) (v : Verdict) → chosen choice ≡ Some v → choice ≡ Go v
chosen_go (Go u) v is = (let e : Some u ≡ Some v = is in ap (λ x. Go x) cc)
chosen_go (Held cause) v is = absurd (let e : None ≡ Some v = is in cc)

module _ (c : Config) (run : ℕ) (past : List Entry) (w r : ℕ) (v : Verdict) where
  -- the verdict by which a legal Admit admits its arrival
  pub admitted_for : IsTurn c run past w (Admit w r v) → verdict_on c run past r w (call_of past r) ≡ Some v
  unfolding verdict
  admitted_for is =
      elim (turned c run past w (Admit w r v) is.next) [
        | goes_on goes ↦ absurd (no_admit c (standing c run past) w r v (stage past w) goes)
        | takes a free there due same ↦ absurd (let e : TakeOut w a.number (not a.quiet) ≡ Admit w r v = same in cc)
        | admits q u free less unadmitted told same ↦
            (let e : Admit w q u ≡ Admit w r v = same in
            let qr : q ≡ r = cc in let uv : u ≡ v = cc in
            subst (λ x. verdict_on c run past x w (call_of past x) ≡ Some v) qr (told ∙ ap (λ x. Some x) uv))
      ]

module _ (c : Config) (run : ℕ) (past : List Entry) (sound : IsSound c run (standing c run past)) where
  by_call : (w r : ℕ) (v : Verdict) (key : Key) (call : Option Call) → call_of past r ≡ call → verdict_on c run past r w call ≡ Some v → key_in call ≡ Some key
      → MayAdmit c run (standing c run past) sound r key v
  by_call w r v key None at told has = absurd (let e : None ≡ Some key = has in cc)
  by_call w r v key (Some (Line number command)) at told has = absurd (let e : None ≡ Some key = has in cc)
  by_call w r v key (Some (Request head target operation body)) at told has =
      may_admit c run (standing c run past) sound r key past (is_locate (Some (Request head target operation body))) (is_crowded past r)
      (Some (Request head target operation body)) w v
      (ap (λ k. first_row
      (facts_met c run past (standing c run past) (is_locate (Some (Request head target operation body))) (is_crowded past r)
      (key_fact run (target_of (Some (Request head target operation body)))) k (walk (standing c run past).nodes k.path)) w) (sym (ap key_or_none has))
      ∙ (ap (λ q. first_row
      (facts_met c run past (standing c run past) (is_locate q) (is_crowded past r) (key_fact run (target_of q)) (key_or_none (key_in q))
      (walk (standing c run past).nodes (key_or_none (key_in q)).path)) w) (sym at) ∙ chosen_go (first_row (facts_of c run past r) w) v told))
  by_call w r v key (Some (Locate head target)) at told has =
      may_admit c run (standing c run past) sound r key past (is_locate (Some (Locate head target))) (is_crowded past r) (Some (Locate head target)) w v
      (ap (λ k. first_row
      (facts_met c run past (standing c run past) (is_locate (Some (Locate head target))) (is_crowded past r)
      (key_fact run (target_of (Some (Locate head target)))) k (walk (standing c run past).nodes k.path)) w) (sym (ap key_or_none has))
      ∙ (ap (λ q. first_row
      (facts_met c run past (standing c run past) (is_locate q) (is_crowded past r) (key_fact run (target_of q)) (key_or_none (key_in q))
      (walk (standing c run past).nodes (key_or_none (key_in q)).path)) w) (sym at) ∙ chosen_go (first_row (facts_of c run past r) w) v told))

  module _ (small_run : run < 2 ^ 32) (small : suc (standing c run past).made < 2 ^ 32) (rule : ImplicitMakes c) where
    fresh : FreshIds c run (standing c run past) sound
    fresh = fresh_ids c run (standing c run past) sound small_run small

    fits : NextFits c run (standing c run past) sound
    fits = next_fits c run (standing c run past) sound small_run small

    by_command : (command : Command) (v : Verdict) → command_verdict c run past (standing c run past) command ≡ Some v → is_accepted v ≡ true
        → MayDo c run (standing c run past) sound command
    unfolding command_verdict
    by_command (Manager name order) v told accepted = tt
    by_command (Create p) v told accepted = may_create c run (standing c run past) sound p v told accepted
    by_command (Destroy p etherealize wait) v told accepted = tt
    by_command (Activate p servant) v told accepted = may_activate c run (standing c run past) sound fresh fits p servant v told accepted
    by_command (ActivateId p oid servant) v told accepted = may_activate_id c run (standing c run past) sound p oid servant v told accepted
    by_command (Deactivate p oid) v told accepted = tt
    by_command (Reference p servant) v told accepted =
        λ n k lives number implicit. may_reference c run (standing c run past) sound fresh fits p servant n k lives
        (λ is. rule p (ap (λ q. activates_implicitly (policies_at c q)) (sym (placed n lives)) ∙ implied n k is)) implicit
      where
        placed : (n : Node) → live_at (standing c run past) p ≡ Some n → n.path ≡ p
        placed n lives = (live_tells (standing c run past) p n lives).1

        implied : (n : Node) (k : ℕ) → is_implicit c (standing c run past) n k ≡ true → activates_implicitly (policies_at c n.path) ≡ true
        implied n k is =
            (and_parts (retains (policies_at c n.path)) (activates_implicitly (policies_at c n.path))
            (and_parts (is_none (referred c (standing c run past) n k)) (retains (policies_at c n.path) && activates_implicitly (policies_at c n.path)) is).1).1
    by_command (Preset p servant) v told accepted = tt
    by_command (Forward p endpoint) v told accepted = tt
    by_command (Unforward p) v told accepted = tt
    by_command Shutdown v told accepted = tt
    by_command (Bad word) v told accepted = tt

    by_line : (w r : ℕ) (v : Verdict) (call : Option Call) (command : Command) → verdict_on c run past r w call ≡ Some v → is_accepted v ≡ true
        → command_in call ≡ Some command → MayDo c run (standing c run past) sound command
    by_line w r v None command told accepted is = absurd (let e : None ≡ Some command = is in cc)
    by_line w r v (Some (Request head target operation body)) command told accepted is = absurd (let e : None ≡ Some command = is in cc)
    by_line w r v (Some (Locate head target)) command told accepted is = absurd (let e : None ≡ Some command = is in cc)
    by_line w r v (Some (Line number d)) command told accepted is =
        (let e : Some d ≡ Some command = is in let same : d ≡ command = cc in
        subst (λ x. MayDo c run (standing c run past) sound x) same (by_command d v told accepted))

    -- a command that an entry does was admitted by it
    done_by : (limit : ℕ) (e : Entry) (command : Command) → MayFollow c run limit past e → command_done past e ≡ Some command
        → MayDo c run (standing c run past) sound command
    done_by limit (Admit w r v) command may done =
        by_line w r v (call_of past r) command (admitted_for c run past w r v may)
        (elim (cases_Bool (is_accepted v)) [
          | inl accepted ↦ accepted
          | inr no_ ↦ absurd (let e : None ≡ Some command = ap (λ b. if b then command_in (call_of past r) else None) (sym no_) ∙ done in cc)
        ])
        (elim (cases_Bool (is_accepted v)) [
          | inl accepted ↦ ap (λ b. if b then command_in (call_of past r) else None) (sym accepted) ∙ done
          | inr no_ ↦ absurd (let e : None ≡ Some command = ap (λ b. if b then command_in (call_of past r) else None) (sym no_) ∙ done in cc)
        ])
    done_by limit (Entered conn) command may done = absurd (let e : None ≡ Some command = done in cc)
    done_by limit (Arrive conn size call) command may done = absurd (let e : None ≡ Some command = done in cc)
    done_by limit (Filled conn size) command may done = absurd (let e : None ≡ Some command = done in cc)
    done_by limit (Left conn) command may done = absurd (let e : None ≡ Some command = done in cc)
    done_by limit (Collect conn a) command may done = absurd (let e : None ≡ Some command = done in cc)
    done_by limit (Tried w a) command may done = absurd (let e : None ≡ Some command = done in cc)
    done_by limit (Incarnated w a) command may done = absurd (let e : None ≡ Some command = done in cc)
    done_by limit (Run w) command may done = absurd (let e : None ≡ Some command = done in cc)
    done_by limit (Done w) command may done = absurd (let e : None ≡ Some command = done in cc)
    done_by limit (TakeOut w n x) command may done = absurd (let e : None ≡ Some command = done in cc)
    done_by limit (Etherealized w x y) command may done = absurd (let e : None ≡ Some command = done in cc)
    done_by limit (Abandon w) command may done = absurd (let e : None ≡ Some command = done in cc)

    made_by : (w k : ℕ) → IsTurn c run past w (Tried w (Yes k))
        → MayMake c run (standing c run past) sound (child_tried (standing c run past).flights (arrival_in (stage past w)))
    made_by w k is =
        elim (turned c run past w (Tried w (Yes k)) is.next) [
          | goes_on goes ↦ (let (r, at, yes_) = only_trial c (standing c run past) w k (stage past w) goes in
              subst (λ begun. MayMake c run (standing c run past) sound (child_tried (standing c run past).flights (arrival_in begun))) (sym at)
              (may_make c run (standing c run past) sound r k yes_))
          | takes a free there due same ↦ absurd (let e : TakeOut w a.number (not a.quiet) ≡ Tried w (Yes k) = same in cc)
          | admits q u free less unadmitted told same ↦ absurd (let e : Admit w q u ≡ Tried w (Yes k) = same in cc)
        ]

    pub may_move : (limit : ℕ) (e : Entry) → MayFollow c run limit past e → MayMove c run past (standing c run past) sound e
    may_move limit e may = record {
      admits =
          λ w r v key same has. by_call w r v key (call_of past r) refl
          (admitted_for c run past w r v (subst (λ x. MayFollow c run limit past x) same may)) has;
      does = λ command done. done_by limit e command may done;
      makes = λ w k same. made_by w k (subst (λ x. MayFollow c run limit past x) same may);
    }

    -- what stands after a legal entry is sound where what stood before it was
    pub step_sound : (limit : ℕ) (e : Entry) → MayFollow c run limit past e → IsSound c run (standing c run (e ∷ past))
    step_sound limit e may =
        settled_sound c run (changed c run past e (standing c run past)) (changed_sound c run past (standing c run past) sound e (may_move limit e may))
