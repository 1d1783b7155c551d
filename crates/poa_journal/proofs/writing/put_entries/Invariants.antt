use Rattle.std.proofs.Common.{◌≡◌, ◌++◌, drop, map}
use Rattle.poa_journal.specs.Entry.{entry_tokens}
use Rattle.poa_journal.specs.Journal.{text_of}
use Rattle.poa_journal.proofs.writing.put_entries.Given as goal

abbrev pub invariant-loop-entry : goal.invariant-loop-entry
invariant-loop-entry l =
    l.out.items ++ text_of (map entry_tokens (drop l.entry-index l.entries)) ≡ l.initial.out.items ++ text_of (map entry_tokens l.entries)
