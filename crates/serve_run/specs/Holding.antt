-- What the run's own seat holds: its own connection, which is the first, and what was joined into it.
use Rattle.std.specs.Prelude.{◌≡◌, ℕ, ◌<◌, ◌≤◌, true, length, reverse, List, [], ◌∷◌, Option, Some, None, ◌⊎◌}
use mathlib.Core.Option.{some}
use lib.ListN.{get_elem?}
use Rattle.outside.specs.Accepting.{Standing}
use Rattle.outside.specs.Link.{Shown}
use Rattle.poa_base.specs.declared.Call.TheVariants.{Line}
use Rattle.poa_base.specs.declared.Command.TheVariants.{Shutdown}
use Rattle.poa_base.specs.declared.Entry.{Entry}
use Rattle.poa_base.specs.declared.Entry.TheVariants.{Entered, Arrive, Filled}
use Rattle.poa_shared.specs.Helping.{IsHelpAt}
use Rattle.poa_history.specs.declared.givens.Givens.{Givens}
use Rattle.poa_history.specs.Legal.{had_shutdown}
use Rattle.poa_history.specs.Owners.{owner_of}
use Rattle.seat_lock.specs.declared.view.View.{View}
use Rattle.seat_lock.specs.Histories.{Belongs, In}
use Rattle.serve_run.specs.Ledgers.{Ledger}
use Rattle.serve_run.specs.Tours.{Tour, Shift, conns_in, workers_in, EachToured, EachWorked, IsWorkersAt}

-- what the run's own connection made: it entered, and made this one entry more where there is one
abbrev pub IsOwn : Option (ℕ × Entry) → ℕ → Entry → Type 0
IsOwn more place e = (e ≡ Entered 0) ⊎ (more ≡ Some (place, e))

-- each turn that the seat made is one of these workers, or was made by a lane in the first worker's stead
abbrev pub HasTurnsOf : List ℕ → View Givens Entry → Type 0
HasTurnsOf workers v = (place w : ℕ) → In place v.mine → IsWorkersAt w v.seen place → In w workers ⊎ IsHelpAt v.seen place

module _ {A L : Type 0} (g : Givens) (shown : L → Shown) (standing : A → Option (Standing L)) (faults ends : A → ℕ) where
  -- the seat made the entries of its own connection, of these doors, of these workers, and what lanes made in the first
  -- worker's stead, and no others
  pub record Holds (own : Option (ℕ × Entry)) (tours : List (Tour A L)) (shifts : List Shift) (v : View Givens Entry) : Type 0 where
    pub ledger : Ledger (0 ∷ conns_in tours) (0 ∷ workers_in shifts) v
    pub turns_are : HasTurnsOf (workers_in shifts) v
    pub tours_are : EachToured g shown standing faults ends tours v
    pub shifts_are : EachWorked g shifts v
    pub own_is : (place : ℕ) (e : Entry) → In place v.mine → get_elem? v.seen place ≡ some e → owner_of e ≡ Some 0 → IsOwn own place e

-- the doors had ended by this place
abbrev pub AreBefore : {A L : Type 0} → ℕ → List (Tour A L) → Type 0
AreBefore place [] = Unit {0}
AreBefore place (t ∷ more) = (length t.stood ≤ place) × AreBefore place more

-- it fills the run only where a `shutdown` had arrived: the first one is taken whatever the limits
abbrev pub FillsBehind : Option (ℕ × Entry) → List Entry → Type 0
FillsBehind own log = (place size : ℕ) → own ≡ Some (place, Filled 0 size) → had_shutdown (reverse log) ≡ true

-- what it made last came when all doors had ended, and the connections that entered by them had made all their entries
pub record IsLast {A L : Type 0} (own : Option (ℕ × Entry)) (tours : List (Tour A L)) (v : View Givens Entry) : Type 0 where
  pub ended : (place : ℕ) (e : Entry) → own ≡ Some (place, e) → AreBefore place tours
  pub left : (place : ℕ) (e : Entry) → own ≡ Some (place, e) → (k c : ℕ) → In k v.mine → In c (conns_in tours) → Belongs owner_of v.seen k c
      → k < place
  pub behind : FillsBehind own v.seen

-- what the run says on its own connection: the line `shutdown`, of eight bytes, or where that isn't taken for the limits of
-- the run, that it fills it
abbrev pub IsShutdown : Entry → Type 0
IsShutdown e = (e ≡ Arrive 0 8 (Line 1 Shutdown)) ⊎ (e ≡ Filled 0 8)

abbrev pub IsWord : Option (ℕ × Entry) → Type 0
IsWord None = Unit {0}
IsWord (Some (place, e)) = IsShutdown e
