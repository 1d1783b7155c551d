use Rattle.std.proofs.Common.{◌≡◌, ◌++◌, drop}
use Rattle.poad_audit.specs.Story.{lines_by, step_line}
use Rattle.poad_audit.proofs.story.put_steps.Given as goal

abbrev pub invariant-loop-step : goal.invariant-loop-step
invariant-loop-step l = l.out.items ++ lines_by step_line (drop l.step-index l.steps) ≡ l.initial.out.items ++ lines_by step_line l.steps
