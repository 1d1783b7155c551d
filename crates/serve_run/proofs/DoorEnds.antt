-- How each door ended, by the whole journal.
use Rattle.std.proofs.Common.{◌≡◌, ℕ, ◌≤◌, Bool, true, false, not, ◌&&◌, ◌==◌, List, [], ◌∷◌, ◌++◌, length, reverse, Option, Some, None, refl, sym, ap, ap₂, ◌∙◌, subst, inl, inr}
use Rattle.std.proofs.lemmas.Bool.{eqb-true, or_cases, true≢false}
use mathlib.Core.Option.{some}
use lib.ListN.{get_elem?}
use Rattle.outside.specs.Accepting.{Standing}
use Rattle.outside.specs.Link.{Shown}
use Rattle.poa_base.specs.declared.Call.{Call}
use Rattle.poa_base.specs.declared.Entry.{Entry}
use Rattle.poa_base.specs.declared.Entry.TheVariants.{Entered, Arrive, Filled, Left, Collect, Admit, Tried, Incarnated, Run, Done, TakeOut, Etherealized, Abandon}
use Rattle.history_standing.specs.Arrivals.{call_of, conn_of}
use Rattle.poa_history.specs.Legal.{is_filled}
use Rattle.history_standing.specs.Stages.{is_abandoned, is_at}
use Rattle.poa_history.proofs.SettledKept.{or_first, or_second}
use Rattle.poa_history.specs.declared.givens.Givens.{Givens}
use Rattle.poa_history.specs.Leaving.{is_shut, is_shut_by}
use Rattle.poa_history.specs.Phases.{first_abandoned, phase_by, phase_of}
use Rattle.poa_history.specs.declared.phase.Phase.{Phase}
use Rattle.poa_history.specs.declared.phase.Phase.TheVariants.{Running, Full, Shut, Abandoned}
use Rattle.std.specs.Option.{option_or}
use Rattle.seat_lock.specs.declared.view.View.{View}
use Rattle.seat_lock.specs.Histories.{IsPrefix}
use Rattle.serve_run.specs.Doors.{DoorHasCause}
use Rattle.serve_run.specs.declared.ran.PieceEnd.{PieceEnd}
use Rattle.serve_run.specs.declared.ran.PieceEnd.TheVariants.{DoorEnd, DoorFailed, NotRunning, Worked}
use Rattle.serve_run.proofs.Places.{earlier_stands}
use Rattle.serve_run.specs.Holding.{AreBefore}
use Rattle.serve_run.specs.Served.{EachEnded, HasEnded, NoneGaveUp, is_shut_by_others}
use Rattle.serve_run.specs.Tours.{Tour, EachToured, HasToured}
use Rattle.serve_run.proofs.Lasting.{arrived_at, reversed_more}
use Rattle.serve_run.proofs.Whole.{abandoned_now, abandoned_still}

-- a run that was filled stays so
filled_still : (e : Entry) (past : List Entry) → is_filled past ≡ true → is_filled (e ∷ past) ≡ true
filled_still (Filled k size) past was = refl
filled_still (Entered k) past was = was
filled_still (Arrive k size call) past was = was
filled_still (Left k) past was = was
filled_still (Collect k a) past was = was
filled_still (Admit w r v) past was = was
filled_still (Tried w a) past was = was
filled_still (Incarnated w a) past was = was
filled_still (Run w) past was = was
filled_still (Done w) past was = was
filled_still (TakeOut w n x) past was = was
filled_still (Etherealized w x y) past was = was
filled_still (Abandon w) past was = was

filled_since : (more past : List Entry) → is_filled past ≡ true → is_filled (more ++ past) ≡ true
filled_since [] past was = was
filled_since (e ∷ more) past was = filled_still e (more ++ past) (filled_since more past was)

-- as does one that others had shut down
shut_still : (e : Entry) (past : List Entry) → is_shut_by_others past ≡ true → is_shut_by_others (e ∷ past) ≡ true
shut_still (Admit w r v) past was = or_second (is_shut_by (call_of past r) && not (is_at 0 (conn_of past r))) (is_shut_by_others past) was
shut_still (Entered k) past was = was
shut_still (Arrive k size call) past was = was
shut_still (Filled k size) past was = was
shut_still (Left k) past was = was
shut_still (Collect k a) past was = was
shut_still (Tried w a) past was = was
shut_still (Incarnated w a) past was = was
shut_still (Run w) past was = was
shut_still (Done w) past was = was
shut_still (TakeOut w n x) past was = was
shut_still (Etherealized w x y) past was = was
shut_still (Abandon w) past was = was

shut_since : (more past : List Entry) → is_shut_by_others past ≡ true → is_shut_by_others (more ++ past) ≡ true
shut_since [] past was = was
shut_since (e ∷ more) past was = shut_still e (more ++ past) (shut_since more past was)

-- no call came on the first connection
abbrev NoneSaid : List Entry → Type 0
NoneSaid h = (x size : ℕ) (call : Call) → get_elem? (reverse h) x ≡ some (Arrive 0 size call) → ⊥

none_before : (e : Entry) (past : List Entry) → NoneSaid (e ∷ past) → NoneSaid past
none_before e past none x size call at = none x size call (earlier_stands e past x (Arrive 0 size call) at)

not_first : (past : List Entry) (r : ℕ) → NoneSaid past → is_at 0 (conn_of past r) ≡ false
not_first past r none = by_conn (conn_of past r) refl
  where
    by_zero : (k : ℕ) → conn_of past r ≡ Some k → (b : Bool) → (k == 0) ≡ b → b ≡ false
    by_zero k is false eq = refl
    by_zero k is true eq = absurd (let at = arrived_at past r 0 (is ∙ ap Some (eqb-true k 0 eq)) in none at.0 at.1 at.2 at.3)

    by_conn : (o : Option ℕ) → conn_of past r ≡ o → is_at 0 o ≡ false
    by_conn None is = refl
    by_conn (Some k) is = by_zero k is (k == 0) refl

shut_by_others : (h : List Entry) → NoneSaid h → is_shut h ≡ true → is_shut_by_others h ≡ true
shut_by_others [] none is = is
shut_by_others (Admit w r v ∷ past) none is =
    elim (or_cases (is_shut_by (call_of past r)) (is_shut past) is) [
      | inl now ↦
          or_first (is_shut_by (call_of past r) && not (is_at 0 (conn_of past r))) (is_shut_by_others past)
          (ap₂ (λ x y. x && not y) now (not_first past r (none_before (Admit w r v) past none)))
      | inr was ↦
          or_second (is_shut_by (call_of past r) && not (is_at 0 (conn_of past r))) (is_shut_by_others past)
          (shut_by_others past (none_before (Admit w r v) past none) was)
    ]
shut_by_others (Entered k ∷ past) none is = shut_by_others past (none_before (Entered k) past none) is
shut_by_others (Arrive k size call ∷ past) none is = shut_by_others past (none_before (Arrive k size call) past none) is
shut_by_others (Filled k size ∷ past) none is = shut_by_others past (none_before (Filled k size) past none) is
shut_by_others (Left k ∷ past) none is = shut_by_others past (none_before (Left k) past none) is
shut_by_others (Collect k a ∷ past) none is = shut_by_others past (none_before (Collect k a) past none) is
shut_by_others (Tried w a ∷ past) none is = shut_by_others past (none_before (Tried w a) past none) is
shut_by_others (Incarnated w a ∷ past) none is = shut_by_others past (none_before (Incarnated w a) past none) is
shut_by_others (Run w ∷ past) none is = shut_by_others past (none_before (Run w) past none) is
shut_by_others (Done w ∷ past) none is = shut_by_others past (none_before (Done w) past none) is
shut_by_others (TakeOut w n x ∷ past) none is = shut_by_others past (none_before (TakeOut w n x) past none) is
shut_by_others (Etherealized w x y ∷ past) none is = shut_by_others past (none_before (Etherealized w x y) past none) is
shut_by_others (Abandon w ∷ past) none is = shut_by_others past (none_before (Abandon w) past none) is

-- who gave the run up first gave it up
first_gave : (h : List Entry) (w : ℕ) → first_abandoned h ≡ Some w → is_abandoned h w ≡ true
first_gave [] w is = absurd (let e : None ≡ Some w = is in cc)
first_gave (Abandon v ∷ past) w is = by_past (first_abandoned past) refl is (λ k was. first_gave past k was)
  where
    by_past : (o : Option ℕ) → first_abandoned past ≡ o → option_or o (Some v) ≡ Some w → ((k : ℕ) → first_abandoned past ≡ Some k → is_abandoned past k ≡ true)
        → is_abandoned (Abandon v ∷ past) w ≡ true
    by_past None none now earlier = (let e : Some v ≡ Some w = now in let same : v ≡ w = cc in abandoned_now w (Abandon v) past (ap Abandon same))
    by_past (Some k) some_ was earlier = abandoned_still w (Abandon v) past (earlier w (some_ ∙ was))
first_gave (Entered k ∷ past) w is = first_gave past w is
first_gave (Arrive k size call ∷ past) w is = first_gave past w is
first_gave (Filled k size ∷ past) w is = first_gave past w is
first_gave (Left k ∷ past) w is = first_gave past w is
first_gave (Collect k a ∷ past) w is = first_gave past w is
first_gave (Admit v r x ∷ past) w is = first_gave past w is
first_gave (Tried v a ∷ past) w is = first_gave past w is
first_gave (Incarnated v a ∷ past) w is = first_gave past w is
first_gave (Run v ∷ past) w is = first_gave past w is
first_gave (Done v ∷ past) w is = first_gave past w is
first_gave (TakeOut v n x ∷ past) w is = first_gave past w is
first_gave (Etherealized v x y ∷ past) w is = first_gave past w is

abandoned_since : (w : ℕ) (more past : List Entry) → is_abandoned past w ≡ true → is_abandoned (more ++ past) w ≡ true
abandoned_since w [] past was = was
abandoned_since w (e ∷ more) past was = abandoned_still w e (more ++ past) (abandoned_since w more past was)

-- what the phase of a run tells of its history
abbrev PhaseTells : Phase → List Entry → Type 0
PhaseTells Running h = Unit {0}
PhaseTells Full h = is_filled h ≡ true
PhaseTells Shut h = is_shut h ≡ true
PhaseTells (Abandoned w) h = is_abandoned h w ≡ true

phase_tells : (h : List Entry) → PhaseTells (phase_of h) h
phase_tells h = by_facts (first_abandoned h) (is_shut h) (is_filled h) refl refl refl
  where
    by_facts : (o : Option ℕ) (s f : Bool) → first_abandoned h ≡ o → is_shut h ≡ s → is_filled h ≡ f → PhaseTells (phase_by o s f) h
    by_facts (Some w) s f gave shut filled = first_gave h w gave
    by_facts None true f gave shut filled = shut
    by_facts None false true gave shut filled = filled
    by_facts None false false gave shut filled = tt

module _ {A L : Type 0} (g : Givens) (shown : L → Shown) (standing_of : A → Option (Standing L)) (faults ends : A → ℕ) (v : View Givens Entry) (log : List Entry)
    (seen : log ≡ v.seen) (going : NoneGaveUp log) where
  module _ (t : Tour A L) (none : NoneSaid (reverse t.stood)) (it : HasToured {A = A} {L = L} g shown standing_of faults ends t v) where
    p : IsPrefix t.stood log
    p = subst (IsPrefix t.stood) (sym seen) it.later

    whole_is : reverse log ≡ reverse p.0 ++ reverse t.stood
    whole_is = reversed_more t.stood log p.0 p.1

    told : (phase : Phase) → phase ≡ phase_of (reverse t.stood) → PhaseTells phase (reverse t.stood)
    told phase is = subst (λ k. PhaseTells k (reverse t.stood)) (sym is) (phase_tells (reverse t.stood))

    by_end : (end : PieceEnd) → DoorHasCause {A = A} {L = L} standing_of faults ends end t.closed t.served (reverse t.stood)
        → HasEnded {A = A} {L = L} standing_of faults ends end log t.closed t.served
    by_end DoorEnd cause = cause.0
    by_end DoorFailed cause = cause
    by_end (NotRunning Full) cause = ap is_filled whole_is ∙ filled_since (reverse p.0) (reverse t.stood) (told Full cause.0)
    by_end (NotRunning Shut) cause =
        ap is_shut_by_others whole_is ∙ shut_since (reverse p.0) (reverse t.stood) (shut_by_others (reverse t.stood) none (told Shut cause.0))
    by_end (NotRunning (Abandoned w)) cause =
        absurd (true≢false (sym (ap (λ l. is_abandoned l w) whole_is ∙ abandoned_since w (reverse p.0) (reverse t.stood) (told (Abandoned w) cause.0)) ∙ going w))
    by_end (NotRunning Running) cause = absurd (cause.1 refl)
    by_end (Worked end) cause = absurd cause

    tour_ended : HasEnded {A = A} {L = L} standing_of faults ends t.end log t.closed t.served
    tour_ended = by_end t.end it.cause

  pub each_ended : (tours : List (Tour A L)) → (n : ℕ) → AreBefore {A = A} {L = L} n tours
      → ((t : Tour A L) → length t.stood ≤ n → IsPrefix t.stood v.seen → NoneSaid (reverse t.stood))
      → EachToured {A = A} {L = L} g shown standing_of faults ends tours v → EachEnded {A = A} {L = L} standing_of faults ends log tours
  each_ended [] n before none each = tt
  each_ended (t ∷ more) n before none each = (tour_ended t (none t before.0 each.0.later) each.0, each_ended more n before.1 none each.1)
