use Rattle.std.proofs.Common.{◌≡◌, take}
use Rattle.std.specs.List.{flat_map}
use Rattle.poad_audit.specs.PictureBars.{bars_of}
use Rattle.poad_audit.proofs.picture.bars.bars_in.Given as goal

abbrev pub invariant-loop-trail : goal.invariant-loop-trail
invariant-loop-trail l = l.bars.items ≡ flat_map bars_of (take l.trail-index l.trails)
