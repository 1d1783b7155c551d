use Rattle.std.proofs.Common.{◌≡◌, drop}
use Rattle.replay_script.specs.Traffic.{traffic_of}
use Rattle.replay_script.proofs.connections.traffic.Given as goal

abbrev pub invariant-loop-row : goal.invariant-loop-row
invariant-loop-row l = traffic_of l.name (drop l.row-index l.rows) ≡ traffic_of l.name l.rows
