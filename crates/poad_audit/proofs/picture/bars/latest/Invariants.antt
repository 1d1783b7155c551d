use Rattle.std.proofs.Common.{◌≡◌, drop}
use Rattle.poad_audit.specs.PictureBars.{latest}
use Rattle.poad_audit.proofs.picture.bars.latest.Given as goal

abbrev pub invariant-loop-bar : goal.invariant-loop-bar
invariant-loop-bar l = latest l.entry (drop l.bar-index l.bars) ≡ latest 0 l.bars
