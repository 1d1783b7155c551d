use Rattle.std.proofs.Common.{◌≡◌, ◌++◌, take}
use Rattle.std.specs.List.{flat_map}
use Rattle.poad_audit.specs.PictureLanes.{connection_lanes}
use Rattle.poad_audit.proofs.picture.lanes.put_connections.Given as goal

abbrev pub invariant-loop-conn : goal.invariant-loop-conn
invariant-loop-conn l = l.lanes.items ≡ l.initial.lanes.items ++ flat_map (connection_lanes l.names) (take l.conn-index l.conns)
