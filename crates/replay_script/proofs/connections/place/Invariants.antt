use Rattle.std.proofs.Common.{◌≡◌, ◌+◌, drop}
use Rattle.replay_script.specs.Connections.{place_in}
use Rattle.replay_script.proofs.connections.place.Given as goal

abbrev pub invariant-loop-i : goal.invariant-loop-i
invariant-loop-i l = l.i + place_in l.name (drop l.i l.names) ≡ place_in l.name l.names
