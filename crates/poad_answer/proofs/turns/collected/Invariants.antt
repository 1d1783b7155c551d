use Rattle.std.proofs.Common.{List, ℕ, ◌++◌}
use Rattle.giop_answer.specs.Reply.{reply_bytes}
use Rattle.poad_answer.specs.Serving.{IsServing}
use Rattle.poa_history.specs.Life.{Life}
use Rattle.replay_run.specs.Collecting.{CollectsAll}
use Rattle.poad_answer.proofs.turns.collected.Given as goal

-- the replies so far, with those that follow, are all
abbrev pub invariant-loop : goal.invariant-loop
invariant-loop l = record {
  collects : (more : List ℕ) (last : Life) → CollectsAll reply_bytes 0 l.core more last → CollectsAll reply_bytes 0 l.fn.core (l.bytes.items ++ more) last;
  serving : IsServing l.core.history;
}
