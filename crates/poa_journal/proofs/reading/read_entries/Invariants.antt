use Rattle.std.proofs.Common.{length}
use Rattle.poa_journal.proofs.Fronts.{EntriesRead}
use Rattle.poa_journal.proofs.reading.read_entries.Given as goal

abbrev pub invariant-loop-front : goal.invariant-loop-front
invariant-loop-front l = EntriesRead l.fn.first l.fn.text l.entries.items l.line l.rest

abbrev pub decreases-loop-front : goal.decreases-loop-front
decreases-loop-front l = length l.rest
