use Rattle.std.proofs.Common.{◌≡◌, ◌++◌, drop}
use Rattle.poad_audit.specs.Objects.{change_text}
use Rattle.poad_audit.specs.Story.{lines_by}
use Rattle.poad_audit.proofs.object_text.put_changes.Given as goal

abbrev pub invariant-loop-change : goal.invariant-loop-change
invariant-loop-change l = l.out.items ++ lines_by (change_text l.path l.oid) (drop l.change-index l.changes)
    ≡ l.initial.out.items ++ lines_by (change_text l.path l.oid) l.changes
