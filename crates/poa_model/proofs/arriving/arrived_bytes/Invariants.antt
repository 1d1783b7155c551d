use Rattle.std.proofs.Common.{◌≡◌, ◌-◌, ◌^◌, min, take, reverse}
use Rattle.history_standing.specs.Arrivals as calls
use Rattle.poa_model.proofs.arriving.arrived_bytes.Given as goal

abbrev pub invariant-loop-entry : goal.invariant-loop-entry
invariant-loop-entry l = l.bytes ≡ min (calls.arrived_bytes (reverse (take l.entry-index l.history))) (2 ^ 64 - 1)
