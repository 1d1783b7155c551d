use Rattle.std.proofs.Common.{◌≡◌, ◌++◌, drop}
use Rattle.poad_audit.specs.PictureStyle.{free_look}
use Rattle.poad_audit.specs.Story.{lines_by}
use Rattle.poad_audit.proofs.picture.style.put_free.Given as goal

abbrev pub invariant-loop-phase : goal.invariant-loop-phase
invariant-loop-phase l = l.out.items ++ lines_by free_look (drop l.phase-index l.phases) ≡ l.initial.out.items ++ lines_by free_look l.phases
