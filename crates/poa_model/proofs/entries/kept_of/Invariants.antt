use Rattle.std.proofs.Common.{◌≡◌, take, reverse}
use Rattle.poa_base.specs.Store.{stored as stored_at_opening}
use Rattle.poa_model.specs.Kept as keeps
use Rattle.poa_model.proofs.entries.kept_of.Given as goal

abbrev pub invariant-loop-i : goal.invariant-loop-i
invariant-loop-i l = keeps.seen l.kept ≡ keeps.kept l.run.config.now l.run.number (stored_at_opening l.store) (reverse (take l.i l.history))
