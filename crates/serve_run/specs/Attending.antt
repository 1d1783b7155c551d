-- How all doors of a run were served, and its workers worked.
use Rattle.std.specs.Prelude.{◌≡◌, ◌≢◌, ℕ, ◌<◌, ◌⊎◌, false, List, [], ◌∷◌, Option, None}
use Rattle.outside.specs.Accepting.{Standing}
use Rattle.outside.specs.Link.{Shown}
use Rattle.poa_base.specs.declared.Entry.{Entry}
use Rattle.poa_history.specs.declared.givens.Givens.{Givens}
use Rattle.seat_lock.specs.declared.view.View.{View}
use Rattle.seat_lock.specs.Histories.{In}
use Rattle.session_laws.specs.declared.peer.Peer.TheVariants.{Administrator, Client}
use Rattle.serve_run.specs.declared.doors.Doors.{Doors}
use Rattle.serve_run.specs.declared.outcome.Outcome.{Outcome}
use Rattle.serve_run.specs.declared.outcome.Want.{Want}
use Rattle.serve_run.specs.Holding.{Holds, IsLast, IsWord}
use Rattle.serve_run.specs.Lanes.{AreOf, AreServed, closed_doors, served_doors}
use Rattle.serve_run.specs.Outcomes.{any_failed, least_in}
use Rattle.serve_run.specs.Starting.{IsSameSeat}
use Rattle.serve_run.specs.Tours.{Tour, Shift, workers_in, EachPassed}

-- the administrators' door was served, too
abbrev pub IsAdminServed : {A L : Type 0} → List (Tour A L) → List (Tour A L) → Doors A → Doors A → Type 0
IsAdminServed {A} {L} tours lanes old new = (t : Tour A L) × (tours ≡ t ∷ lanes) × (t.peer ≡ Administrator) × (t.closed ≡ old.admin)
    × (t.served ≡ new.admin)

-- or it wasn't, as a piece wasn't started
abbrev pub IsAdminLeft : {A L : Type 0} → List (Tour A L) → List (Tour A L) → Option Want → Doors A → Doors A → Type 0
IsAdminLeft tours lanes short old new = (tours ≡ lanes) × (new.admin ≡ old.admin) × (short ≢ None)

-- which doors were served, and came back: all of them, unless a piece wasn't started
pub record Attended {A L : Type 0} (tours : List (Tour A L)) (short : Option Want) (old new : Doors A) : Type 0 where
  pub lanes : List (Tour A L)
  pub rest : List A
  pub before : old.lanes.items ≡ closed_doors rest lanes
  pub after : new.lanes.items ≡ served_doors rest lanes
  pub all : short ≡ None → rest ≡ []
  pub clients : AreOf Client lanes
  pub admin : IsAdminServed tours lanes old new ⊎ IsAdminLeft tours lanes short old new

module _ {A L : Type 0} (g : Givens) (shown : L → Shown) (standing : A → Option (Standing L)) (faults ends : A → ℕ) where
  pub record DoorsServed (old_doors new_doors : Doors A) (outcome : Outcome) (old new : View Givens Entry) : Type 0 where
    pub tours : List (Tour A L)
    pub attended : Attended tours outcome.short old_doors new_doors
    pub served : AreServed g shown standing faults ends tours outcome old new

  -- the doors were served, then the run's end was called for, and then these workers closed, whose numbers are below a count
  pub record AllServed (count : ℕ) (old_doors new_doors : Doors A) (outcome : Outcome) (old new : View Givens Entry) : Type 0 where
    pub same : IsSameSeat old new
    pub tours : List (Tour A L)
    pub attended : Attended tours outcome.short old_doors new_doors
    pub failed_is : outcome.failed ≡ any_failed tours
    pub refused_is : outcome.refused ≡ least_in tours
    pub passed : EachPassed standing faults tours
    pub own : Option (ℕ × Entry)
    pub word : IsWord own
    pub shifts : List Shift
    pub holds : outcome.lost ≡ false → Holds g shown standing faults ends own tours shifts new
    pub last : outcome.short ≡ None → outcome.lost ≡ false → IsLast own tours new
    pub below : (w : ℕ) → In w (workers_in shifts) → w < count
    pub worked : outcome.short ≡ None → outcome.lost ≡ false → (w : ℕ) → w < count → In w (workers_in shifts)
