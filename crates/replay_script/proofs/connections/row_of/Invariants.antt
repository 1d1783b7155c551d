use Rattle.std.proofs.Common.{◌≡◌, ◌+◌, drop}
use Rattle.replay_script.specs.Connections.{place_in}
use Rattle.replay_script.specs.Traffic.{names}
use Rattle.replay_script.proofs.connections.row_of.Given as goal

abbrev pub invariant-loop-i : goal.invariant-loop-i
invariant-loop-i l = l.i + place_in l.name (names (drop l.i l.rows)) ≡ place_in l.name (names l.rows)
