use Rattle.std.proofs.Common.{◌≡◌, ◌++◌, drop}
use Rattle.poad_audit.specs.PictureLanes.{bar_on}
use Rattle.poad_audit.specs.Story.{lines_by}
use Rattle.poad_audit.proofs.picture.rows.put_bars.Given as goal

abbrev pub invariant-loop-bar : goal.invariant-loop-bar
invariant-loop-bar l =
    l.out.items ++ lines_by (bar_on l.window l.lane) (drop l.bar-index l.bars) ≡ l.initial.out.items ++ lines_by (bar_on l.window l.lane) l.bars
