use Rattle.std.proofs.Common.{◌≡◌, ◌<◌, ℕ, None, slice_index_or}
use Rattle.poa_history.specs.Verdicts.{verdict}
use Rattle.core_turns.specs.Told.{history}
use Rattle.core_turns.proofs.known.Known.first_line.Given as goal

abbrev pub invariant-loop-i : goal.invariant-loop-i
invariant-loop-i l = (j : ℕ) → j < l.i → verdict l.self.config.now l.self.run (history l.self) (slice_index_or l.self.queue.now.lines.items j 0) l.worker ≡ None
