use Rattle.std.specs.BTreeMap.{values}
use Rattle.active_map.specs.Endings.{takes}
use Rattle.active_map.proofs.Covering.{EntersUpTo}
use Rattle.active_map.proofs.leaving.enter_ended.Given as goal

abbrev pub invariant-loop-activation : goal.invariant-loop-activation
invariant-loop-activation l = EntersUpTo (takes l.ending) l.initial.leaving.keys l.leaving.keys (values l.rows) l.activation-iterator
