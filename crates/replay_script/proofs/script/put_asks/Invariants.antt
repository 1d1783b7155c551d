use Rattle.std.proofs.Common.{◌≡◌, ◌++◌}
use Rattle.replay_script.specs.Whole.{asks, numbered}
use Rattle.replay_script.proofs.script.put_asks.Given as goal

abbrev pub invariant-loop-before : goal.invariant-loop-before
invariant-loop-before l = l.steps.items ≡ l.fn.steps.items ++ numbered l.line (asks l.request l.before)
