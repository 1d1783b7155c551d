use Rattle.std.proofs.Common.{◌≡◌, ◌++◌, drop, map}
use Rattle.poa_base.specs.Rows.{row_seen}
use Rattle.poa_journal.specs.Row.{row_tokens}
use Rattle.poa_journal.specs.Journal.{text_of}
use Rattle.poa_journal.proofs.writing.put_rows.Given as goal

abbrev pub invariant-loop-row : goal.invariant-loop-row
invariant-loop-row l =
    l.out.items ++ text_of (map row_tokens (map row_seen (drop l.row-index l.rows)))
    ≡ l.initial.out.items ++ text_of (map row_tokens (map row_seen l.rows))
