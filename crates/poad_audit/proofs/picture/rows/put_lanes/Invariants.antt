use Rattle.std.proofs.Common.{◌≡◌, ◌++◌, drop}
use Rattle.poad_audit.specs.PictureLanes.{lanes_text}
use Rattle.poad_audit.proofs.picture.rows.put_lanes.Given as goal

abbrev pub invariant-loop-row : goal.invariant-loop-row
invariant-loop-row l =
    l.out.items ++ lanes_text l.window l.bars l.row (drop l.row l.lanes) ≡ l.initial.out.items ++ lanes_text l.window l.bars 0 l.lanes
