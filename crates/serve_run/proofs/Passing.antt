-- A door gives a link and is given it back: it has passed one link more.
use Rattle.std.proofs.Common.{◌≡◌, ℕ, ◌-◌, List, [], ◌∷◌, ◌++◌, Option, Some, None, refl, sym, ap, ◌∙◌, subst, arith}
use Rattle.std.specs.Prelude.{IfSome}
use Rattle.outside.specs.Accepting.{Opens, Standing, TakesBack}
use Rattle.outside.specs.Told.{IfTold}
use Rattle.outside.specs.declared.accepting.Door.TheVariants as door
use Rattle.poa_base.specs.declared.Entry.{Entry}
use Rattle.serve_run.specs.Doors.{DoorHasCause}
use Rattle.serve_run.specs.Tours.{Tour, HasPassed}
use Rattle.serve_run.specs.Visits.{Visit, Passes, given}
use Rattle.serve_run.specs.declared.ran.PieceEnd.{PieceEnd}
use Rattle.serve_run.specs.declared.ran.PieceEnd.TheVariants.{DoorEnd, DoorFailed, NotRunning, Worked}

module _ {L : Type 0} where
  pub passes_none : (s : Option (Standing L)) → IfTold s s (Passes [])
  passes_none None = tt
  passes_none (Some a) = record { left = refl; back = refl; out = refl }

  passed_one : (visits : List (Visit L)) (x : Visit L) (a b c d : Standing L) → Passes visits a b → Opens (door.Link x.before) b c
      → TakesBack x.after x.session c d → Passes (x ∷ visits) a d
  passed_one visits x a b c d so_far opened taken = record {
    left = so_far.left ∙ ap (given visits) (opened.0 ∙ ap (λ l. x.before ∷ l) (sym (ap (λ s. s.left) taken)));
    back = ap (λ s. s.back) taken ∙ ap (λ l. l ++ (x.after, x.session) ∷ []) (opened.2 ∙ so_far.back);
    out = (let less : d.out ≡ c.out - 1 = ap (λ s. s.out) taken in let more = opened.1 in let same = so_far.out in omega arith);
  }

  pub passed_on : (visits : List (Visit L)) (x : Visit L) (s t u w : Option (Standing L)) → IfTold s t (Passes visits) → IfTold t u (Opens (door.Link x.before))
      → IfTold u w (TakesBack x.after x.session) → IfTold s w (Passes (x ∷ visits))
  passed_on visits x None None None None p q r = tt
  passed_on visits x (Some a) (Some b) (Some c) (Some d) p q r = passed_one visits x a b c d p q r
  passed_on visits x (Some a) None u w p q r = absurd p
  passed_on visits x None (Some b) u w p q r = absurd p
  passed_on visits x (Some a) (Some b) None w p q r = absurd q
  passed_on visits x None None (Some c) w p q r = absurd q
  passed_on visits x (Some a) (Some b) (Some c) None p q r = absurd r
  passed_on visits x None None None (Some d) p q r = absurd r

-- a door that gives no link passes none
module _ {L : Type 0} (visits : List (Visit L)) where
  pub passed_still : (s t u : Option (Standing L)) → IfTold s t (Passes visits) → IfTold t u (Opens door.Quiet) → IfTold s u (Passes visits)
  passed_still None None None so_far same = tt
  passed_still (Some a) (Some b) (Some c) so_far same = subst (Passes visits a) (sym same) so_far
  passed_still (Some a) None u so_far same = absurd so_far
  passed_still None (Some b) u so_far same = absurd so_far
  passed_still None None (Some c) so_far same = absurd same
  passed_still (Some a) (Some b) None so_far same = absurd same

  pub passed_end : (s t u : Option (Standing L)) → IfTold s t (Passes visits) → IfTold t u (Opens door.End) → IfTold s u (Passes visits)
  passed_end None None None so_far same = tt
  passed_end (Some a) (Some b) (Some c) so_far same = subst (Passes visits a) (sym same.1) so_far
  passed_end (Some a) None u so_far same = absurd so_far
  passed_end None (Some b) u so_far same = absurd so_far
  passed_end None None (Some c) so_far same = absurd same
  passed_end (Some a) (Some b) None so_far same = absurd same

-- a door that says that it ends has no link left
pub none_left : {L : Type 0} (s t : Option (Standing L)) → IfTold s t (Opens door.End) → IfSome t (λ x. x.left ≡ [])
none_left None None ends = tt
none_left (Some a) (Some b) ends = ap (λ x. x.left) ends.1 ∙ ends.0
none_left None (Some b) ends = absurd ends
none_left (Some a) None ends = absurd ends

-- a door that was served to its end counted a fault where it failed, and else none
module _ {A L : Type 0} (standing : A → Option (Standing L)) (faults ends : A → ℕ) (t : Tour A L) (h : List Entry)
    (passes : IfTold (standing t.closed) (standing t.served) (Passes t.visits)) where
  pub has_passed : (end : PieceEnd) → t.end ≡ end → DoorHasCause {A = A} {L = L} standing faults ends end t.closed t.served h
      → HasPassed {A = A} {L = L} standing faults t
  has_passed DoorEnd is cause =
      record { passes = passes; failed = λ other. absurd (let e : DoorEnd ≡ DoorFailed = sym is ∙ other in cc); steady = λ _. cause.1 }
  has_passed DoorFailed is cause = record { passes = passes; failed = λ _. cause; steady = λ other. absurd (other is) }
  has_passed (NotRunning phase) is cause =
      record { passes = passes; failed = λ other. absurd (let e : NotRunning phase ≡ DoorFailed = sym is ∙ other in cc); steady = λ _. cause.2 }
  has_passed (Worked end) is cause = absurd cause
