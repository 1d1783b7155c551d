use Rattle.std.proofs.Common.{length}
use Rattle.ior_text.proofs.Listing.{FoundSome}
use Rattle.ior_text.proofs.corbaloc_reading.read_addresses.Given as goal

abbrev pub invariant-loop-addresses : goal.invariant-loop-addresses
invariant-loop-addresses l = FoundSome l.end l.list l.rest l.addresses

abbrev pub decreases-loop-addresses : goal.decreases-loop-addresses
decreases-loop-addresses l = length l.rest
