-- Which reply fits the call that it is given out for.
use Rattle.std.specs.Prelude.{List}
use Rattle.poa_base.specs.declared.Entry.{Entry}
use Rattle.history_standing.specs.Arrivals.{call_of}
use Rattle.poa_history.specs.Fits.{FitsCall}
use Rattle.poa_core.specs.declared.collected.Collected.{Collected}
use Rattle.poa_core.specs.declared.collected.Collected.TheVariants as collected

-- the reply that is given out fits the call that it answers
abbrev pub FitsItsCall : List Entry → Collected → Type 0
FitsItsCall h (collected.Reply r head reply) = FitsCall (call_of h r) reply
FitsItsCall h (collected.Nothing owes) = Unit {0}
