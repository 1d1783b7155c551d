-- What a session knows of the calls that it let arrive.
use Rattle.std.specs.Prelude.{◌≡◌, ℕ, Some}
use Rattle.poa_base.specs.declared.Entry.{Entry}
use Rattle.session_laws.specs.Calls.{IsGivenTo}
use Rattle.poa_history.specs.declared.Givens.{Givens}
use Rattle.poa_core.specs.declared.Collected.{Collected}
use Rattle.poa_core.specs.declared.Collected.TheVariants as collected
use Rattle.poa_shared.specs.Seen.{past}
use Rattle.seat_lock.specs.declared.view.View.{View}
use Rattle.session_laws.specs.Hearing.{AreSaid}
use Rattle.session_laws.specs.Records.{arrived_by}

-- each call of the connection that arrived is one of a message, or an administrator's line
pub record HasSaid (c : ℕ) (v : View Givens Entry) : Type 0 where
  pub givens : Givens
  pub given : v.givens ≡ Some givens
  pub said : AreSaid (arrived_by (past v) c)

-- what is collected can be written
abbrev pub IsGiven : Collected → Type 0
IsGiven (collected.Reply r head reply) = IsGivenTo head reply
IsGiven (collected.Nothing owes) = Unit {0}
