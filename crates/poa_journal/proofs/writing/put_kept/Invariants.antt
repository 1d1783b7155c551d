use Rattle.std.proofs.Common.{◌≡◌, ◌++◌, drop, map}
use Rattle.poa_journal.specs.Entry.{entry_tokens}
use Rattle.poa_journal.specs.Journal.{text_of}
use Rattle.poa_journal.proofs.writing.put_kept.Given as goal

abbrev pub invariant-loop-place : goal.invariant-loop-place
invariant-loop-place l =
    l.out.items ++ text_of (map entry_tokens (drop l.place l.entries.items)) ≡ l.initial.out.items ++ text_of (map entry_tokens l.entries.items)
