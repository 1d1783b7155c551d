use Rattle.std.proofs.Common.{◌≡◌, ◌++◌, take}
use Rattle.std.specs.List.{flat_map}
use Rattle.poad_audit.specs.PictureLanes.{call_lane}
use Rattle.poad_audit.proofs.picture.lanes.put_calls.Given as goal

abbrev pub invariant-loop-name : goal.invariant-loop-name
invariant-loop-name l = l.lanes.items ≡ l.initial.lanes.items ++ flat_map (call_lane l.conn) (take l.name-index l.names)
