-- How a run's end is called for.
use Rattle.std.specs.Prelude.{◌≡◌, ℕ, Result}
use Rattle.poa_base.specs.declared.Call.TheVariants.{Line}
use Rattle.poa_base.specs.declared.Command.TheVariants.{Shutdown}
use Rattle.poa_base.specs.declared.Entry.{Entry}
use Rattle.poa_core.specs.Answers.{Arrives}
use Rattle.poa_core.specs.declared.arrive_fault.ArriveFault.{ArriveFault}
use Rattle.poa_shared.specs.Events.{Event}
use Rattle.poa_history.specs.declared.givens.Givens.{Givens}
use Rattle.seat_lock.specs.declared.view.View.{View}

-- after a look the line `shutdown` arrived on the first connection, or was refused
pub record Says (v w : View Givens Entry) : Type 0 where
  pub between : View Givens Entry
  pub looked : Event (λ old new. new ≡ old) v between
  pub answer : Result ℕ ArriveFault
  pub arrived : Event (λ old new. Arrives 0 (Line 1 Shutdown) 8 old answer new) between w
