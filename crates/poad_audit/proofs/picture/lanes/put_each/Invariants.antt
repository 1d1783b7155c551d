use Rattle.std.proofs.Common.{◌≡◌, ◌++◌, map, take}
use Rattle.poad_audit.specs.declared.picture.lane.Lane.TheVariants.{One}
use Rattle.poad_audit.proofs.picture.lanes.put_each.Given as goal

abbrev pub invariant-loop-number : goal.invariant-loop-number
invariant-loop-number l = l.lanes.items ≡ l.initial.lanes.items ++ map (One l.band) (take l.number-index l.numbers)
