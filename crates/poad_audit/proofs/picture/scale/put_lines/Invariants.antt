use Rattle.std.proofs.Common.{◌≡◌, ◌++◌, drop}
use Rattle.poad_audit.specs.Picture.{line_at}
use Rattle.poad_audit.specs.Story.{lines_by}
use Rattle.poad_audit.proofs.picture.scale.put_lines.Given as goal

abbrev pub invariant-loop-number : goal.invariant-loop-number
invariant-loop-number l =
    l.out.items ++ lines_by (line_at l.window l.rows) (drop l.number-index l.numbers)
    ≡ l.initial.out.items ++ lines_by (line_at l.window l.rows) l.numbers
