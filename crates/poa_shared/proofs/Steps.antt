-- A step of a worker makes a turn of its, or nothing; what it made before stays a turn.
use Rattle.std.proofs.Common.{◌≡◌, ℕ, List, ◌∷◌, Some, None, Result, Ok, Err, not, refl, ap, ◌∙◌, subst}
use Rattle.std.specs.declared.alloc.AllocError.{AllocError}
use Rattle.poa_base.specs.declared.Config.{Config}
use Rattle.poa_base.specs.declared.Entry.{Entry}
use Rattle.poa_base.specs.declared.Entry.TheVariants.{Admit, Tried, Incarnated, Run, Done, TakeOut, Etherealized, Abandon}
use Rattle.history_standing.specs.declared.stage.Stage.{Stage}
use Rattle.history_standing.specs.declared.stage.Stage.TheVariants.{Free, Trying, Incarnating, Serving, Ran, Removing}
use Rattle.history_standing.specs.Changes.{standing}
use Rattle.history_standing.specs.Rules.{brought}
use Rattle.history_standing.specs.Stages.{stage}
use Rattle.history_standing.specs.Standings.{Standing}
use Rattle.poa_history.specs.Turns.{attempt, activation_numbered, going_on, turn}
use Rattle.poa_history.proofs.TurnIs.{mapped_by, goes_on, takes, admits, turned}
use Rattle.poa_history.specs.declared.givens.Givens.{Givens}
use Rattle.poa_history.specs.Owners.{worker_of}
use Rattle.poa_core.specs.Answers.{Steps}
use Rattle.poa_core.specs.declared.step_out.StepOut.{StepOut}
use Rattle.poa_core.specs.declared.step_out.StepOut.TheVariants as step_out
use Rattle.poa_shared.specs.Seen.{past, Turns}
use Rattle.poa_shared.specs.Events.{Event}
use Rattle.poa_shared.specs.Worked.{IsTurnAt}
use Rattle.poa_shared.specs.Pauses.{MakesTurns}
use Rattle.poa_shared.proofs.Making.{call_none, call_one, makes_through}
use Rattle.poa_shared.proofs.Seeing.{one_stands}
use Rattle.seat_lock.specs.declared.view.View.{View}
use Rattle.seat_lock.specs.Histories.{IsPrefix}
use Rattle.seat_lock.proofs.Calls.{at_prefix}

-- the entry is one of the worker, and not its Abandon
abbrev pub IsOf : ℕ → Entry → Type 0
IsOf w e = (worker_of e ≡ Some w) × (e ≡ Abandon w → ⊥)

going : (c : Config) (s : Standing) (w : ℕ) (begun : Stage) (e : Entry) → going_on c s w begun ≡ Some e → IsOf w e
going c s w Free e is = absurd (let f : None ≡ Some e = is in cc)
going c s w (Trying r) e is =
    subst (IsOf w) (let f : Some (Tried w (attempt c s r)) ≡ Some e = is in cc) (refl, λ (q : Tried w (attempt c s r) ≡ Abandon w). cc)
going c s w (Incarnating r n) e is =
    (let found = mapped_by (λ a. Incarnated w (brought c s a)) (activation_numbered s n) e is in
    subst (IsOf w) found.2 (refl, λ (q : Incarnated w (brought c s found.0) ≡ Abandon w). cc))
going c s w (Serving r) e is = subst (IsOf w) (let f : Some (Run w) ≡ Some e = is in cc) (refl, λ (q : Run w ≡ Abandon w). cc)
going c s w (Ran r) e is = subst (IsOf w) (let f : Some (Done w) ≡ Some e = is in cc) (refl, λ (q : Done w ≡ Abandon w). cc)
going c s w (Removing n) e is =
    (let found = mapped_by (λ a. Etherealized w a.cleanup a.remaining) (activation_numbered s n) e is in
    subst (IsOf w) found.2 (refl, λ (q : Etherealized w found.0.cleanup found.0.remaining ≡ Abandon w). cc))

-- the next entry of a worker is one of its
pub turn_own : (c : Config) (run : ℕ) (h : List Entry) (w : ℕ) (e : Entry) → turn c run h w ≡ Some e → IsOf w e
turn_own c run h w e is =
    elim (turned c run h w e is) [
      | goes_on goes ↦ going c (standing c run h) w (stage h w) e goes
      | takes a free there due same ↦ subst (IsOf w) same (refl, λ (q : TakeOut w a.number (not a.quiet) ≡ Abandon w). cc)
      | admits r v free less unadmitted told same ↦ subst (IsOf w) same (refl, λ (q : Admit w r v ≡ Abandon w). cc)
    ]

module _ (worker : ℕ) where
  -- a turn is one in a longer journal too
  pub turn_stays : (short long : List Entry) (place : ℕ) → IsPrefix short long → IsTurnAt worker short place → IsTurnAt worker long place
  turn_stays short long place p t = record { entry = t.entry; stands = at_prefix short long place t.entry p t.stands; own = t.own; going = t.going }

  abbrev IsTurn : List Entry → List ℕ → ℕ → Type 0
  IsTurn log made place = IsTurnAt worker log place

  pub turns_through : (u v w : View Givens Entry) → MakesTurns worker u v → MakesTurns worker v w → MakesTurns worker u w
  turns_through u v w a b =
      makes_through IsTurn IsTurn IsTurn u v w a b (λ place turn. turn_stays v.seen w.seen place b.grows turn) (λ place low turn. turn)

  module _ (g : Givens) (v w : View Givens Entry) (h : List Entry) (t : Turns g v h w) where
    turn_none : past w ≡ h → MakesTurns worker v w
    turn_none = call_none IsTurn g v w h t

    turn_one : (e : Entry) → past w ≡ e ∷ h → IsOf worker e → MakesTurns worker v w
    turn_one e is own =
        call_one IsTurn g v w h t e is (record { entry = e; stands = one_stands g v w h t e is; own = own.0; going = own.1 })

  -- whatever a step answers, it made a turn or nothing
  pub step_makes : (r : Result StepOut AllocError) (g : Givens) (v w : View Givens Entry) → v.givens ≡ Some g → Event (λ old new. Steps worker old r new) v w
      → MakesTurns worker v w
  step_makes (Ok step_out.Stopped) g v w given ev = (let it = ev g given in turn_none g v w it.0 it.1 (ap (λ l. l.history) it.2.1))
  step_makes (Ok (step_out.Idle over)) g v w given ev = (let it = ev g given in turn_none g v w it.0 it.1 (ap (λ l. l.history) it.2.3))
  step_makes (Ok (step_out.Did point)) g v w given ev =
      (let it = ev g given in let one = it.2.2 in turn_one g v w it.0 it.1 one.0 (ap (λ l. l.history) one.2) (turn_own g.config g.run it.0 worker one.0 one.1))
  step_makes (Err fault) g v w given ev = (let it = ev g given in turn_none g v w it.0 it.1 (ap (λ l. l.history) it.2.2))

  -- a step after the turns so far
  pub steps_on : (r : Result StepOut AllocError) (u v w : View Givens Entry) → ((g : Givens) → u.givens ≡ Some g → MakesTurns worker u v)
      → Event (λ old new. Steps worker old r new) v w → (g : Givens) → u.givens ≡ Some g → MakesTurns worker u w
  steps_on r u v w so_far ev g given = (let old = so_far g given in turns_through u v w old (step_makes r g v w (old.given ∙ given) ev))
