-- What a status tells of a run that was served.
use Rattle.std.proofs.Common.{◌≡◌, ℕ, Bool, true, false, ◌||◌, List, [], ◌∷◌, reverse, Option, Some, None, option_map, Result, refl, sym, ap, ◌∙◌, subst, inl, inr}
use Rattle.std.specs.Prelude.{◌≢◌}
use Rattle.std.specs.declared.alloc.AllocError.{AllocError}
use Rattle.std.proofs.lemmas.Bool.{or_cases, true≢false}
use Rattle.command_words.specs.Serving.{Serve}
use Rattle.outside.specs.Accepting.{Standing}
use Rattle.outside.specs.Keeping.{Contents}
use Rattle.outside.specs.Link.{Shown}
use Rattle.outside.specs.Told.{IfTold}
use Rattle.outside.specs.declared.keeping.Put.{Put}
use Rattle.poad_files.specs.Taking.{HoldsStill}
use Rattle.poad_files.specs.declared.status.Status.{Status}
use Rattle.poad_files.specs.declared.status.Status.TheVariants.{NoThread}
use Rattle.std.specs.Option.{is_some, option_or}
use Rattle.std.specs.Result.{is_err}
use Rattle.poad_cmd.specs.Ending.{AnyRose, EachSteady, IsLimit, is_unput, status_of, wants_memory}
use Rattle.poad_cmd.specs.Beginning.{IsBegun}
use Rattle.poad_cmd.specs.Serving.{Ends, ServesOn, Tells}
use Rattle.poad_cmd.proofs.Statuses.{fine_told, limit_is, limit_told, listen_told, no_memory_wanted, none_full, none_short, not_lost, not_short, thread_short, thread_told}
use Rattle.poa_history.specs.Life.{Life}
use Rattle.poa_history.specs.declared.givens.Givens.{Givens}
use Rattle.poa_history.specs.Limits.{filled_at}
use Rattle.poa_history.specs.declared.full.Full.{Full}
use Rattle.serve_run.specs.declared.ran.PieceEnd.{PieceEnd}
use Rattle.serve_run.specs.declared.ran.PieceEnd.TheVariants.{DoorEnd, DoorFailed, NotRunning, Worked}
use Rattle.serve_run.specs.Outcomes.{any_failed, is_failed, least_in}
use Rattle.serve_run.specs.Running.{IsKeptRun, IsServedRun, IsWholeRun}
use Rattle.serve_run.specs.Tours.{Tour, EachPassed}
use Rattle.serve_run.specs.declared.doors.Doors.{Doors}
use Rattle.serve_run.specs.declared.outcome.Outcome.{Outcome}
use Rattle.serve_run.specs.declared.outcome.Want.TheVariants.{Thread}

failed_is : (end : PieceEnd) → is_failed end ≡ true → end ≡ DoorFailed
failed_is DoorFailed is = refl
failed_is DoorEnd is = absurd (true≢false (sym is))
failed_is (NotRunning phase) is = absurd (true≢false (sym is))
failed_is (Worked end) is = absurd (true≢false (sym is))

not_failed : (end : PieceEnd) → is_failed end ≡ false → end ≢ DoorFailed
not_failed end is at = true≢false (sym (ap is_failed at) ∙ is)

pub both_false : (a b : Bool) → a || b ≡ false → (a ≡ false) × (b ≡ false)
both_false true b is = absurd (true≢false is)
both_false false b is = (refl, is)

module _ {A L : Type 0} (standing : A → Option (Standing L)) (faults : A → ℕ) where
  pub any_rose : (tours : List (Tour A L)) → any_failed tours ≡ true → EachPassed {A = A} {L = L} standing faults tours
      → AnyRose {A = A} {L = L} faults tours
  any_rose [] is passed = absurd (true≢false (sym is))
  any_rose (t ∷ more) is passed =
      elim (or_cases (any_failed more) (is_failed t.end) is) [
        | inl there ↦ inr (any_rose more there passed.1)
        | inr here ↦ inl (passed.0.failed (failed_is t.end here))
      ]

  pub each_steady : (tours : List (Tour A L)) → any_failed tours ≡ false → EachPassed {A = A} {L = L} standing faults tours
      → EachSteady {A = A} {L = L} faults tours
  each_steady [] is passed = tt
  each_steady (t ∷ more) is passed =
      (let both = both_false (any_failed more) (is_failed t.end) is in (passed.0.steady (not_failed t.end both.1), each_steady more both.0 passed.1))

module _ {A L : Type 0} (g : Givens) (shown : L → Shown) (standing : A → Option (Standing L)) (faults ends : A → ℕ) (workers : ℕ) (old new : Doors A)
    (outcome : Outcome) (life : Life)
    (ran : IsServedRun {A = A} {L = L} g shown standing faults ends workers old new outcome life)
    (journal : Result Put AllocError) (filled : Option Full) (filled_is : option_map (λ f. (f.arrivals, f.bytes)) filled ≡ filled_at life.history)
    (status : Status) (status_is : status ≡ status_of outcome journal filled) where
  abbrev m : Bool
  m = wants_memory outcome || is_err journal

  abbrev s : Bool
  s = is_some outcome.short

  abbrev u : Bool
  u = is_unput journal

  abbrev l : Option Full
  l = option_or filled outcome.refused

  kept_run : m ≡ false → IsKeptRun {A = A} {L = L} g shown workers ran.tours ran.last (reverse life.history)
  kept_run none = ran.kept (not_lost outcome.lost outcome.short (is_err journal) none)

  whole_run : m ≡ false → s ≡ false → IsWholeRun {A = A} {L = L} g standing faults ends ran.tours ran.last (reverse life.history)
  whole_run none all = ran.calm (not_short outcome.short all) (not_lost outcome.lost outcome.short (is_err journal) none)

  pub tells : Tells {A = A} {L = L} shown standing faults ends g workers ran.tours ran.last status life
  tells = record {
    sessions = λ other. kept_run (no_memory_wanted m s u outcome.failed l (λ is. other (status_is ∙ is)));
    end = λ other more. whole_run (no_memory_wanted m s u outcome.failed l (λ is. other (status_is ∙ is)))
        (none_short m s u outcome.failed l (λ is. other (status_is ∙ is)) (λ is. more (status_is ∙ is)));
    listen_fault = λ is. (let told = listen_told m s u outcome.failed l (sym status_is ∙ is) in
        any_rose standing faults ran.tours (sym ran.failed_is ∙ told.2) ran.passed);
    limit = λ calls bytes is. (let told = limit_told m s u outcome.failed l calls bytes (sym status_is ∙ is) in
        subst (λ at. IsLimit at (least_in ran.tours) calls bytes) filled_is
        (subst (λ r. IsLimit (option_map (λ f. (f.arrivals, f.bytes)) filled) r calls bytes) ran.refused_is
        (limit_is filled outcome.refused told.0 calls bytes told.1 told.2 told.3)));
    fine = λ is. (let well = fine_told m s u outcome.failed l (sym status_is ∙ is) in
        let none = none_full filled outcome.refused well.taken in (
          sym filled_is ∙ ap (option_map (λ f. (f.arrivals, f.bytes))) none.0,
          sym ran.refused_is ∙ none.1,
          each_steady standing faults ran.tours (sym ran.failed_is ∙ well.doors) ran.passed,
        ));
  }

  pub no_thread : status ≡ NoThread → outcome.short ≡ Some Thread
  no_thread is = (let told = thread_told m s u outcome.failed l (sym status_is ∙ is) in thread_short outcome.lost outcome.short (is_err journal) told.0 told.1)

module _ {A L : Type 0} (shown : L → Shown) (standing : A → Option (Standing L)) (faults ends : A → ℕ) (asked : Option Serve) (serve : Serve) (begun : Life)
    (status : Status) (old new : Doors A)
    (files between after : Option Contents) (asked_is : asked ≡ Some serve) (begins : IsBegun serve begun files between)
    (still : IfTold files between HoldsStill) where
  pub run_ends : (core : Option Life) → ServesOn {A = A} {L = L} shown standing faults ends serve begun status old new core between after
      → Ends {A = A} {L = L} shown standing faults ends asked status old new core files after
  run_ends None is = (is.0, subst (λ now. IfTold files now HoldsStill) (sym is.2) still, inr is.1)
  run_ends (Some life) is = (serve, asked_is, record { begun = begun; between = between; still = still; begins = begins; served = is })
