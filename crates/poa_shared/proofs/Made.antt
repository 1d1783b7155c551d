-- Each call of the core makes at most one entry, which its seat may make.
use Rattle.std.proofs.Common.{◌∷◌, length, arith, ◌≡◌, ℕ, true, false, if◌then◌else◌, reverse, refl, sym, ap, subst, ◌∙◌, inl, inr, ◌⊎◌}
use Rattle.history_standing.specs.Arrivals.{connections}
use Rattle.std.specs.Prelude.{Option, Some, Result, Ok, Err, None}
use Rattle.std.specs.declared.alloc.AllocError.{AllocError}
use Rattle.poa_base.specs.declared.Call.{Call}
use Rattle.poa_base.specs.declared.Entry.{Entry}
use Rattle.poa_base.specs.declared.Entry.TheVariants.{Entered, Arrive, Filled, Left, Collect, Admit, Tried, Incarnated, Run, Done, TakeOut, Etherealized, Abandon}
use Rattle.poa_history.specs.Legal.{is_filled}
use Rattle.history_standing.specs.Stages.{is_abandoned}
use Rattle.poa_history.specs.Entries.{is_turn}
use Rattle.seat_lock.specs.declared.view.View.{View}
use Rattle.seat_lock.specs.Histories.{MayMake}
use Rattle.seat_lock.specs.Steps.{Knows}
use Rattle.poa_history.specs.declared.givens.Givens.{Givens}
use Rattle.poa_history.specs.Owners.{owner_of}
use Rattle.poa_history.specs.GivenRuns.{IsHistory}
use Rattle.poa_history.specs.Life.{Life, givens_of, with_entry}
use Rattle.poa_core.specs.Answers.{Enters, Arrives, Steps, Collects, Abandons}
use Rattle.poa_core.specs.declared.enter_fault.EnterFault.{EnterFault}
use Rattle.poa_core.specs.declared.enter_fault.EnterFault.TheVariants as enter_fault
use Rattle.poa_core.specs.declared.arrive_fault.ArriveFault.{ArriveFault}
use Rattle.poa_core.specs.declared.arrive_fault.ArriveFault.TheVariants as arrive_fault
use Rattle.poa_core.specs.declared.step_out.StepOut.{StepOut}
use Rattle.poa_core.specs.declared.step_out.StepOut.TheVariants as step_out
use Rattle.poa_core.specs.declared.collected.Collected.{Collected}
use Rattle.poa_core.specs.declared.collected.Collected.TheVariants as collected
use Rattle.poa_core.proofs.NextTurn.{made as turn_made}
use Rattle.poa_shared.specs.Events.{StepsRunning}
use Rattle.poa_shared.specs.Seen.{Owns}
use Rattle.poa_shared.proofs.Holding.{may_enter, may_own, may_work}

-- the run is as it was, or has one entry more that the seat may make
abbrev pub IsMade : View Givens Entry → Life → Life → Type 0
IsMade v x y = (y ≡ x) ⊎ ((e : Entry) × (y ≡ with_entry e x) × MayMake owner_of (reverse x.history) v.mine e)

-- no connection makes the turn of a worker
of_none : (e : Entry) → is_turn e ≡ true → owner_of e ≡ None
of_none (Entered conn) is = absurd (let e : false ≡ true = is in cc)
of_none (Arrive conn size call) is = absurd (let e : false ≡ true = is in cc)
of_none (Filled conn size) is = absurd (let e : false ≡ true = is in cc)
of_none (Left conn) is = absurd (let e : false ≡ true = is in cc)
of_none (Collect conn a) is = absurd (let e : false ≡ true = is in cc)
of_none (Admit w r v) is = refl
of_none (Tried w a) is = refl
of_none (Incarnated w a) is = refl
of_none (Run w) is = refl
of_none (Done w) is = refl
of_none (TakeOut w n x) is = refl
of_none (Etherealized w x y) is = refl
of_none (Abandon w) is = absurd (let e : false ≡ true = is in cc)

module _ (v : View Givens Entry) (x y : Life) where
  pub steps_made : (w : ℕ) (r : Result StepOut AllocError) → Steps w x r y → IsMade v x y
  steps_made w (Ok step_out.Stopped) s = inl s.1
  steps_made w (Ok (step_out.Idle over)) s = inl s.3
  steps_made w (Ok (step_out.Did point)) s =
      (let m = s.2 in inr (m.0, m.2, may_work (reverse x.history) v.mine m.0 (of_none m.0 (turn_made x.config x.run x.limit x.history w m.0 m.1).turn_is)))
  steps_made w (Err fault) s = inl s.2

  pub running_made : (w : ℕ) (r : Option (Result StepOut AllocError)) → StepsRunning w x r y → IsMade v x y
  running_made w (Some r) s = steps_made w r s.1
  running_made w None s = inl s.1

  pub abandons_made : (w : ℕ) → Abandons w x y → IsMade v x y
  abandons_made w is =
      elim (is_abandoned x.history w) as (λ b. y ≡ (if b then x else with_entry (Abandon w) x) → IsMade v x y) [
        | true ↦ (λ same. inl same)
        | false ↦ (λ more. inr (Abandon w, more, may_work (reverse x.history) v.mine (Abandon w) refl))
      ] is

  module _ (k : Knows owner_of v (reverse x.history)) where
    pub enters_made : (r : Result ℕ EnterFault) → IsHistory (givens_of x) x.history → Enters x r y → IsMade v x y
    enters_made (Ok conn) runs s = inr (Entered conn, s.2, may_now conn s.0)
      where
        may_now : (conn : ℕ) → conn ≡ connections x.history → MayMake owner_of (reverse x.history) v.mine (Entered conn)
        may_now conn at = subst (λ n. MayMake owner_of (reverse x.history) v.mine (Entered n)) (sym at) (may_enter v x.history k (givens_of x) runs)
    enters_made (Err (enter_fault.Limit conns calls bytes)) runs s = inl s.4
    enters_made (Err enter_fault.WantMemory) runs s = inl s.1

    pub arrives_made : (conn : ℕ) (call : Call) (size : ℕ) (r : Result ℕ ArriveFault) → Owns v conn → Arrives conn call size x r y → IsMade v x y
    arrives_made conn call size (Ok r) owns s = inr (Arrive conn size call, s.2, may_own v x.history k conn (Arrive conn size call) owns refl)
    arrives_made conn call size (Err (arrive_fault.Limit calls bytes)) owns s =
        elim (is_filled x.history) as (λ b. y ≡ (if b then x else with_entry (Filled conn size) x) → IsMade v x y) [
          | true ↦ (λ same. inl same)
          | false ↦ (λ more. inr (Filled conn size, more, may_own v x.history k conn (Filled conn size) owns refl))
        ] s.1
    arrives_made conn call size (Err arrive_fault.WantMemory) owns s = inl s.1

    pub collects_made : (conn : ℕ) (r : Collected) → Owns v conn → Collects conn x r y → IsMade v x y
    collects_made conn (collected.Reply r head reply) owns s = inr (Collect conn r, s.3, may_own v x.history k conn (Collect conn r) owns refl)
    collects_made conn (collected.Nothing owes) owns s = inl s.2

    pub leaves_made : (conn : ℕ) → Owns v conn → y ≡ with_entry (Left conn) x → IsMade v x y
    leaves_made conn owns s = inr (Left conn, s, may_own v x.history k conn (Left conn) owns refl)

-- what isn't a leaving doesn't make a connection leave
pub not_longer : (x : Life) (e : Entry) → x ≡ with_entry e x → ⊥
not_longer x e is = (let long : length x.history ≡ length (e ∷ x.history) = ap (λ (l : Life). length l.history) is in omega (arith, long))

not_both : (x y : Life) (d e : Entry) → y ≡ with_entry d x → y ≡ with_entry e x → d ≡ e
not_both x y d e one other = (let both : d ∷ x.history ≡ e ∷ x.history = ap (λ (l : Life). l.history) (sym one ∙ other) in cc)

pub collects_stay : (x y : Life) (conn c : ℕ) (r : Collected) → Collects conn x r y → y ≡ with_entry (Left c) x → ⊥
collects_stay x y conn c (collected.Reply r head reply) s left = (let same : Collect conn r ≡ Left c = not_both x y _ _ s.3 left in cc)
collects_stay x y conn c (collected.Nothing owes) s left = not_longer x (Left c) (sym s.2 ∙ left)

pub arrives_stay : (v : View Givens Entry) (x y : Life) (conn c : ℕ) (call : Call) (size : ℕ) (r : Result ℕ ArriveFault) → Arrives conn call size x r y
    → y ≡ with_entry (Left c) x → ⊥
arrives_stay v x y conn c call size (Ok r) s left = (let same : Arrive conn size call ≡ Left c = not_both x y _ _ s.2 left in cc)
arrives_stay v x y conn c call size (Err (arrive_fault.Limit calls bytes)) s left =
    elim (is_filled x.history) as (λ b. y ≡ (if b then x else with_entry (Filled conn size) x) → ⊥) [
      | true ↦ (λ same. not_longer x (Left c) (sym same ∙ left))
      | false ↦ (λ more. (let same : Filled conn size ≡ Left c = not_both x y _ _ more left in cc))
    ] s.1
arrives_stay v x y conn c call size (Err arrive_fault.WantMemory) s left = not_longer x (Left c) (sym s.1 ∙ left)
