-- What a look at the run says.
use Rattle.std.proofs.Common.{◌≡◌, ℕ, Bool, true, false, ◌||◌, ◌==◌, List, [], ◌∷◌, refl, sym, subst, ◌∙◌, eq-eqb}
use Rattle.std.specs.Prelude.{Option, Some, None}
use Rattle.std.specs.Option.{option_or}
use Rattle.poa_base.specs.declared.Entry.{Entry}
use Rattle.poa_base.specs.declared.Entry.TheVariants.{Abandon}
use Rattle.poa_base.specs.declared.SessionEnd.{SessionEnd}
use Rattle.poa_base.specs.declared.SessionEnd.TheVariants.{Shut, Abandoned}
use Rattle.poa_history.specs.Legal.{is_filled}
use Rattle.history_standing.specs.Stages.{is_abandoned}
use Rattle.seat_lock.specs.declared.view.View.{View}
use Rattle.poa_history.specs.declared.Givens.{Givens}
use Rattle.poa_history.specs.Leaving.{is_shut}
use Rattle.poa_history.specs.Phases.{first_abandoned, phase_by, phase_of}
use Rattle.poa_history.specs.declared.Phase.{Phase}
use Rattle.poa_history.specs.declared.Phase.TheVariants as phase
use Rattle.poa_shared.specs.Seen.{Turns, past}
use Rattle.poa_session.specs.Stopping.{Looks, Stops}

-- what a phase says
abbrev Says : Option ℕ → Bool → Phase → Type 0
Says first shut phase.Running = shut ≡ false
Says first shut phase.Full = shut ≡ false
Says first shut phase.Shut = shut ≡ true
Says first shut (phase.Abandoned worker) = first ≡ Some worker

phase_says : (first : Option ℕ) (shut filled : Bool) → Says first shut (phase_by first shut filled)
phase_says (Some worker) shut filled = refl
phase_says None true filled = refl
phase_says None false true = refl
phase_says None false false = refl

or_later : (a b : Bool) → b ≡ true → (a || b) ≡ true
or_later true b is = refl
or_later false b is = is

or_first : (a b : Bool) → a ≡ true → (a || b) ≡ true
or_first true b first = refl
or_first false b first = absurd (let e : false ≡ true = first in cc)

then_gave_up : (h : List Entry) (v worker : ℕ) → (first_abandoned h ≡ Some worker → is_abandoned h worker ≡ true)
    → (o : Option ℕ) → first_abandoned h ≡ o → option_or o (Some v) ≡ Some worker → is_abandoned (Abandon v ∷ h) worker ≡ true
then_gave_up h v worker before None none is = or_first (v == worker) (is_abandoned h worker) (eq-eqb v worker (let e : Some v ≡ Some worker = is in cc))
then_gave_up h v worker before (Some x) was is = or_later (v == worker) (is_abandoned h worker) (before (was ∙ is))

gave_up : (h : List Entry) (worker : ℕ) → first_abandoned h ≡ Some worker → is_abandoned h worker ≡ true
gave_up [] worker is = absurd (let e : None ≡ Some worker = is in cc)
gave_up (Abandon v ∷ h) worker is = then_gave_up h v worker (gave_up h worker) (first_abandoned h) refl is
gave_up (e ∷ h) worker is = gave_up h worker is

-- how a phase ends a session
abbrev pub stop_of : Phase → Option SessionEnd
stop_of phase.Running = None
stop_of phase.Full = None
stop_of phase.Shut = Some Shut
stop_of (phase.Abandoned worker) = Some (Abandoned worker)

stops_as : (h : List Entry) (p : Phase) → Says (first_abandoned h) (is_shut h) p → Stops h (stop_of p)
stops_as h phase.Running says = says
stops_as h phase.Full says = says
stops_as h phase.Shut says = says
stops_as h (phase.Abandoned worker) says = gave_up h worker says

pub looks_at : (g : Givens) (v : View Givens Entry) (h : List Entry) (w : View Givens Entry) (p : Phase) → Turns g v h w → past w ≡ h → p ≡ phase_of h
    → Looks g v w (stop_of p)
looks_at g v h w p turns same is = record {
  turns = subst (λ k. Turns g v k w) (sym same) turns;
  stops = stops_as (past w) p (subst (λ k. Says (first_abandoned k) (is_shut k) p) (sym same)
      (subst (Says (first_abandoned h) (is_shut h)) (sym is) (phase_says (first_abandoned h) (is_shut h) (is_filled h))));
}
