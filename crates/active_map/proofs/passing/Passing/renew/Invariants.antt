use Rattle.std.specs.BTreeMap.{values}
use Rattle.active_map.proofs.Renewing.{RenewsUpTo}
use Rattle.active_map.proofs.passing.Passing.renew.Given as goal

abbrev pub invariant-loop-activation : goal.invariant-loop-activation
invariant-loop-activation l = RenewsUpTo l.initial.self.are_own l.self (values l.rows) l.activation-iterator
