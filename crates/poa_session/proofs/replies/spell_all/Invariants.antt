use Rattle.std.proofs.Common.{◌≡◌, ◌++◌, drop}
use Rattle.poa_session.specs.Giving.{AreGiven, told_all}
use Rattle.poa_session.proofs.replies.spell_all.Given as goal

abbrev pub invariant-loop-collected : goal.invariant-loop-collected
invariant-loop-collected l = record {
  bytes : l.bytes.items ++ told_all (drop l.collected-index l.given) ≡ l.initial.bytes.items ++ told_all l.given;
  given : AreGiven (drop l.collected-index l.given);
}
