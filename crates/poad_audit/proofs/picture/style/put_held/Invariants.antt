use Rattle.std.proofs.Common.{◌≡◌, ◌++◌, drop}
use Rattle.poad_audit.specs.PictureStyle.{held_look}
use Rattle.poad_audit.specs.Story.{lines_by}
use Rattle.poad_audit.proofs.picture.style.put_held.Given as goal

abbrev pub invariant-loop-cause : goal.invariant-loop-cause
invariant-loop-cause l = l.out.items ++ lines_by held_look (drop l.cause-index l.causes) ≡ l.initial.out.items ++ lines_by held_look l.causes
