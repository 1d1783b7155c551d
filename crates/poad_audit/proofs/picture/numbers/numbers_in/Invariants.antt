use Rattle.std.proofs.Common.{◌≡◌, [], drop}
use Rattle.poad_audit.specs.PictureLanes.{number_on, numbers_by}
use Rattle.poad_audit.proofs.picture.numbers.numbers_in.Given as goal

abbrev pub invariant-loop-bar : goal.invariant-loop-bar
invariant-loop-bar l =
    numbers_by (number_on l.band) l.known.items (drop l.bar-index l.bars) ≡ numbers_by (number_on l.band) [] l.bars
