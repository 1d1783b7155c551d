use Rattle.std.proofs.Common.{◌≡◌, ◌++◌, drop}
use Rattle.poad_audit.specs.PictureBars.{bars_by, bars_of}
use Rattle.poad_audit.proofs.picture.bars.put_bars.Given as goal

abbrev pub invariant-loop-step : goal.invariant-loop-step
invariant-loop-step l =
    l.bars.items ++ bars_by l.asked l.bar (drop l.step-index l.trail.steps.items) ≡ l.initial.bars.items ++ bars_of l.trail
