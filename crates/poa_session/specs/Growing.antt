-- What a seat's view gains while a session goes on.
use Rattle.std.specs.Prelude.{◌≡◌, ℕ, List, ◌++◌}
use Rattle.poa_base.specs.declared.Entry.{Entry}
use Rattle.seat_lock.specs.Steps.{Knows}
use Rattle.seat_lock.specs.declared.view.View.{View}
use Rattle.poa_history.specs.declared.Givens.{Givens}
use Rattle.poa_history.specs.Owners.{owner_of}
use Rattle.poa_history.specs.GivenRuns.{IsHistory}
use Rattle.poa_shared.specs.Seen.{Owns, past}
use Rattle.session_laws.specs.Hearing.{Heard}
use Rattle.session_laws.specs.Records.{arrived_by, joined_by, is_late_by, places_by}

-- the history goes on, and of the connection these calls arrived and these bytes of replies were given; the seat made
-- entries of this connection alone
pub record Adds (g : Givens) (c : ℕ) (v w : View Givens Entry) (calls : List Heard) (replies : List ℕ) : Type 0 where
  pub more : List Entry
  pub since : past w ≡ more ++ past v
  pub arrived_is : arrived_by (past w) c ≡ arrived_by (past v) c ++ calls
  pub joined_is : joined_by g (past w) c ≡ joined_by g (past v) c ++ replies
  pub late_is : is_late_by (past w) c ≡ is_late_by (past v) c
  pub made : List ℕ
  pub mine_is : w.mine ≡ v.mine ++ made
  pub places_is : places_by (past w) c ≡ places_by (past v) c ++ made
  pub runs : IsHistory g (past v) → IsHistory g (past w)
  pub knows : Knows owner_of v v.seen → Knows owner_of w w.seen
  pub given : w.givens ≡ v.givens
  pub base : w.base ≡ v.base
  pub room : w.room ≡ v.room
  pub owned : (d : ℕ) → Owns v d → Owns w d
