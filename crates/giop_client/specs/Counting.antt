-- The counts of a connector: which ends of a call they license.
use Rattle.std.specs.Prelude.{ℕ, ◌≤◌, ⊤}
use Rattle.outside.specs.Cause.{Rose}
use Rattle.outside.specs.Connecting.{Tally}
use Rattle.giop_client.specs.declared.call_end.CallEnd.{CallEnd}
use Rattle.giop_client.specs.declared.call_end.CallEnd.TheVariants.{ConnectFault, ReadFault, WriteFault, NoAnswer}

-- no count fell
pub record IsLater (old new : Tally) : Type 0 where
  pub dials : old.dial_faults ≤ new.dial_faults
  pub reads : old.read_faults ≤ new.read_faults
  pub writes : old.write_faults ≤ new.write_faults
  pub quiets : old.quiets ≤ new.quiets

-- a fault is told only where the count of it rose, and that nothing came only where a read found nothing
abbrev pub Blames : CallEnd → Tally → Tally → Type 0
Blames ConnectFault old new = Rose old.dial_faults new.dial_faults
Blames ReadFault old new = Rose old.read_faults new.read_faults
Blames WriteFault old new = Rose old.write_faults new.write_faults
Blames (NoAnswer quiets) old new = Rose old.quiets new.quiets
Blames other old new = ⊤
