-- No connection leaves by what the guarded core is asked.
use Rattle.std.proofs.Common.{◌≡◌, ℕ, ◌≤◌, true, false, List, ◌∷◌, Some, refl, sym, ap, subst, ◌∙◌, arith}
use Rattle.std.specs.Prelude.{Result, Ok, Err, if◌then◌else◌, Bool}
use Rattle.std.specs.declared.alloc.AllocError.{AllocError}
use Rattle.poa_base.specs.declared.Call.{Call}
use Rattle.poa_base.specs.declared.Entry.{Entry}
use Rattle.poa_base.specs.declared.Entry.TheVariants.{Entered, Arrive, Filled, Left, Collect, Admit, Tried, Incarnated, Run, Done, TakeOut, Etherealized, Abandon}
use Rattle.history_standing.specs.Arrivals.{connections}
use Rattle.poa_history.specs.Legal.{has_left, is_filled}
use Rattle.poa_history.specs.Entries.{is_turn}
use Rattle.poa_history.specs.Life.{Life, with_entry}
use Rattle.poa_core.specs.Answers.{Enters, Arrives, Steps, Collects, filled_by}
use Rattle.poa_core.specs.declared.enter_fault.EnterFault.{EnterFault}
use Rattle.poa_core.specs.declared.enter_fault.EnterFault.TheVariants as enter_fault
use Rattle.poa_core.specs.declared.arrive_fault.ArriveFault.{ArriveFault}
use Rattle.poa_core.specs.declared.arrive_fault.ArriveFault.TheVariants as arrive_fault
use Rattle.poa_core.specs.declared.step_out.StepOut.{StepOut}
use Rattle.poa_core.specs.declared.step_out.StepOut.TheVariants as step_out
use Rattle.poa_core.specs.declared.collected.Collected.{Collected}
use Rattle.poa_core.specs.declared.collected.Collected.TheVariants as collected
use Rattle.poa_core.proofs.NextTurn.{made}

-- those that entered are there still
pub record Stays (old new : List Entry) : Type 0 where
  pub entered : connections old ≤ connections new
  pub staying : ((c : ℕ) → has_left old c ≡ false) → (c : ℕ) → has_left new c ≡ false

itself : (h : List Entry) → Stays h h
itself h = record { entered = omega arith; staying = λ none. none }

by_turn : (h : List Entry) (e : Entry) → is_turn e ≡ true → Stays h (e ∷ h)
by_turn h (Admit w r v) is = record { entered = omega arith; staying = λ none. none }
by_turn h (Tried w a) is = record { entered = omega arith; staying = λ none. none }
by_turn h (Incarnated w a) is = record { entered = omega arith; staying = λ none. none }
by_turn h (Run w) is = record { entered = omega arith; staying = λ none. none }
by_turn h (Done w) is = record { entered = omega arith; staying = λ none. none }
by_turn h (TakeOut w n x) is = record { entered = omega arith; staying = λ none. none }
by_turn h (Etherealized w x y) is = record { entered = omega arith; staying = λ none. none }
by_turn h (Entered k) is = record { entered = omega arith; staying = λ none. none }
by_turn h (Arrive k size call) is = record { entered = omega arith; staying = λ none. none }
by_turn h (Filled k size) is = record { entered = omega arith; staying = λ none. none }
by_turn h (Collect k a) is = record { entered = omega arith; staying = λ none. none }
by_turn h (Abandon w) is = record { entered = omega arith; staying = λ none. none }
by_turn h (Left k) is = absurd (let e : false ≡ true = is in cc)

to_new : (old new : Life) (h : List Entry) → new.history ≡ h → Stays old.history h → Stays old.history new.history
to_new old new h is stays = subst (Stays old.history) (sym is) stays

pub enters_stays : (old new : Life) (result : Result ℕ EnterFault) → Enters old result new → Stays old.history new.history
enters_stays old new (Ok conn) is =
    to_new old new (Entered conn ∷ old.history) (ap (λ l. l.history) is.2) (record { entered = omega arith; staying = λ none. none })
enters_stays old new (Err (enter_fault.Limit conns calls bytes)) is = to_new old new old.history (ap (λ l. l.history) is.4) (itself old.history)
enters_stays old new (Err enter_fault.WantMemory) is = to_new old new old.history (ap (λ l. l.history) is.1) (itself old.history)

pub arrives_stays : (conn size : ℕ) (call : Call) (old new : Life) (result : Result ℕ ArriveFault) → Arrives conn call size old result new
    → Stays old.history new.history
arrives_stays conn size call old new (Ok r) is =
    to_new old new (Arrive conn size call ∷ old.history) (ap (λ l. l.history) is.2) (record { entered = omega arith; staying = λ none. none })
arrives_stays conn size call old new (Err (arrive_fault.Limit calls bytes)) is =
    to_new old new (filled_by conn size old).history (ap (λ l. l.history) is.1) (filled (is_filled old.history))
  where
    filled : (b : Bool) → Stays old.history (if b then old else with_entry (Filled conn size) old).history
    filled true = itself old.history
    filled false = record { entered = omega arith; staying = λ none. none }
arrives_stays conn size call old new (Err arrive_fault.WantMemory) is = to_new old new old.history (ap (λ l. l.history) is.1) (itself old.history)

pub steps_stays : (w : ℕ) (old new : Life) (result : Result StepOut AllocError) → Steps w old result new → Stays old.history new.history
steps_stays w old new (Ok step_out.Stopped) is = to_new old new old.history (ap (λ l. l.history) is.1) (itself old.history)
steps_stays w old new (Ok (step_out.Idle over)) is = to_new old new old.history (ap (λ l. l.history) is.3) (itself old.history)
steps_stays w old new (Ok (step_out.Did point)) is =
    let e = is.2.0 in
    to_new old new (e ∷ old.history) (ap (λ l. l.history) is.2.2) (by_turn old.history e (made old.config old.run old.limit old.history w e is.2.1).turn_is)
steps_stays w old new (Err fault) is = to_new old new old.history (ap (λ l. l.history) is.2) (itself old.history)

pub collects_stays : (conn : ℕ) (old new : Life) (result : Collected) → Collects conn old result new → Stays old.history new.history
collects_stays conn old new (collected.Reply r head reply) is =
    to_new old new (Collect conn r ∷ old.history) (ap (λ l. l.history) is.3) (record { entered = omega arith; staying = λ none. none })
collects_stays conn old new (collected.Nothing owes) is = to_new old new old.history (ap (λ l. l.history) is.2) (itself old.history)
