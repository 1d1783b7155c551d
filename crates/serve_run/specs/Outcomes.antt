-- How a run came off, as its doors and workers tell.
use Rattle.std.specs.Prelude.{Bool, true, false, ◌||◌, List, [], ◌∷◌, Option, Some, None}
use Rattle.poa_history.specs.declared.full.Full.{Full}
use Rattle.serve_run.specs.Refusals.{earlier, least_refusal}
use Rattle.serve_run.specs.declared.ran.PieceEnd.{PieceEnd}
use Rattle.poa_shared.specs.declared.work_end.WorkEnd.TheVariants.{Closed}
use Rattle.serve_run.specs.declared.ran.PieceEnd.TheVariants.{DoorFailed, Worked}
use Rattle.serve_run.specs.declared.outcome.Outcome.{Outcome}
use Rattle.serve_run.specs.declared.outcome.Want.{Want}
use Rattle.serve_run.specs.Tours.{Tour}

abbrev pub good : Outcome
good = record { short = None; lost = false; failed = false; refused = None }

abbrev pub short_of : Want → Bool → Outcome
short_of want lost = record { short = Some want; lost = lost; failed = false; refused = None }

abbrev pub is_failed : PieceEnd → Bool
is_failed DoorFailed = true
is_failed end = false

abbrev pub with_door : Option Full → PieceEnd → Outcome → Outcome
with_door refused end o = record { short = o.short; lost = o.lost; failed = o.failed || is_failed end; refused = earlier o.refused refused }

abbrev pub with_loss : Bool → Outcome → Outcome
with_loss lost o = record { short = o.short; lost = o.lost || lost; failed = o.failed; refused = o.refused }

-- whether one of the doors failed
abbrev pub any_failed : {A L : Type 0} → List (Tour A L) → Bool
any_failed [] = false
any_failed (t ∷ more) = any_failed more || is_failed t.end

-- the least numbers with which a connection couldn't enter at any of the doors
abbrev pub least_in : {A L : Type 0} → List (Tour A L) → Option Full
least_in [] = None
least_in (t ∷ more) = earlier (least_in more) (least_refusal t.visits)

-- whether a worker didn't come to the run's end
abbrev pub is_loss : PieceEnd → Bool
is_loss (Worked Closed) = false
is_loss end = true
