-- What was made by a seat, read on two views of it. A place is an index into the journal.
use Rattle.std.specs.Prelude.{◌≡◌, ℕ, ◌≤◌, List, ◌++◌, length}
use Rattle.poa_base.specs.declared.Entry.{Entry}
use Rattle.poa_history.specs.declared.givens.Givens.{Givens}
use Rattle.seat_lock.specs.declared.view.View.{View}
use Rattle.seat_lock.specs.Histories.{In, IsPrefix}

-- between two views of a seat entries were made, each of which is so in the journal among all places made, and nothing else
pub record Makes (IsSo : List Entry → List ℕ → ℕ → Type 0) (old new : View Givens Entry) : Type 0 where
  pub grows : IsPrefix old.seen new.seen
  pub given : new.givens ≡ old.givens
  pub base : new.base ≡ old.base
  pub room : new.room ≡ old.room
  pub made : List ℕ
  pub mine : new.mine ≡ old.mine ++ made
  -- each came after all that the seat had seen
  pub each : (place : ℕ) → In place made → (length old.seen ≤ place) × IsSo new.seen made place
