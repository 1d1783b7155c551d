use Rattle.std.specs.BTreeMap.{values}
use Rattle.active_map.proofs.IdsKept.{ForgetsUpTo}
use Rattle.active_map.proofs.rows.forget_ids.Given as goal

abbrev pub invariant-loop-activation : goal.invariant-loop-activation
invariant-loop-activation l = ForgetsUpTo l.config l.index (values l.rows) l.activation-iterator
