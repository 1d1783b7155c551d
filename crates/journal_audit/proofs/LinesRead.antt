-- The lines of a journal's entries, shown one by one to those who watch.
use Rattle.std.proofs.Common.{◌≡◌, ℕ, ◌+◌, ◌-◌, ◌<◌, ◌≤◌, List, [], ◌∷◌, ◌++◌, length, Ok, Err, refl, ◌∙◌, arith, length-append}
use Rattle.poa_base.specs.declared.Entry.{Entry}
use Rattle.poa_history.specs.Life.{givens_of}
use Rattle.text_words.specs.Cuts.{lines_of, words_of}
use Rattle.text_words.specs.Token.{spelled}
use Rattle.poa_journal.specs.declared.fault.JournalFault.{JournalFault}
use Rattle.poa_journal.specs.declared.fault.JournalFault.TheVariants.{BadLine, WantMemory}
use Rattle.poa_journal.specs.Entry.{entry_tokens}
use Rattle.poa_journal.specs.Reading.{entry_of}
use Rattle.poa_journal.specs.Whole.{JournalReads, entry_at}
use Rattle.poa_journal.proofs.Fronts.{EntriesRead, entries_begin, entries_step, entries_refused, entries_ended}
use Rattle.journal_audit.specs.declared.watch.Watch.{Watch}
use Rattle.journal_audit.specs.Auditing.{HasTaken, Takes}
use Rattle.journal_audit.specs.Looking.{Watches, link_of}
use Rattle.journal_audit.specs.Texts.{LinesTaken, TakesLines}
use Rattle.journal_audit.proofs.Stepping.{taken_then}

-- entries were read of a text from line `first` on, and shown; the next line is `line`, where `rest` begins
pub record SoFar (first : ℕ) (text : List ℕ) (old : Watch) (line : ℕ) (rest : List ℕ) (new : Watch) : Type 0 where
  pub entries : List Entry
  pub read : EntriesRead first text entries line rest
  pub counted : line ≡ first + length entries
  pub taken : HasTaken entries new.auditor
  pub given : givens_of new.auditor.run ≡ givens_of old.auditor.run
  pub watches : Watches new
  pub link : link_of new ≡ link_of old

pub lines_begin : (first : ℕ) (text : List ℕ) (w : Watch) → HasTaken [] w.auditor → Watches w → SoFar first text w first text w
lines_begin first text w had watches = record {
  entries = [];
  read = entries_begin first text;
  counted = omega arith;
  taken = had;
  given = refl;
  watches = watches;
  link = refl;
}

module _ (first : ℕ) (text : List ℕ) (old : Watch) (line : ℕ) (rest : List ℕ) (now : Watch) (so_far : SoFar first text old line rest now) where
  pub lines_step : (l after : List ℕ) (e : Entry) (new : Watch) → lines_of rest ≡ l ∷ lines_of after → length after < length rest
      → entry_at line (entry_of (words_of l)) ≡ Ok e → l ≡ spelled (entry_tokens e) → Takes e now.auditor new.auditor → Watches new
      → link_of new ≡ link_of now → SoFar first text old (line + 1) after new
  lines_step l after e new cut shorter is spells takes watches link = record {
    entries = so_far.entries ++ e ∷ [];
    read = entries_step first text so_far.entries line rest l after e so_far.read cut shorter is spells;
    counted = omega (arith, so_far.counted, length-append so_far.entries (e ∷ []));
    taken = taken_then so_far.entries e now.auditor new.auditor so_far.taken takes;
    given = takes.given ∙ so_far.given;
    watches = watches;
    link = link ∙ so_far.link;
  }

  -- there is a number more than that of the line
  pub lines_room : (after : List ℕ) → length after < length rest → line + 1 ≤ first + length text
  lines_room after shorter = omega (arith, so_far.read.bound)

  pub lines_count : first ≤ line
  lines_count = omega (arith, so_far.counted)

  pub lines_end : lines_of rest ≡ [] → LinesTaken first text old (line - first) now
  lines_end none = record {
    entries = so_far.entries;
    read = entries_ended first text so_far.entries line rest so_far.read none;
    counted = omega (arith, so_far.counted);
    fits = omega (arith, so_far.counted, so_far.read.bound);
    taken = so_far.taken;
    given = so_far.given;
    watches = so_far.watches;
    link = so_far.link;
  }

  pub lines_refused : (l after : List ℕ) (fault : JournalFault) (new : Watch) → lines_of rest ≡ l ∷ lines_of after
      → JournalReads (λ (e : Entry). e) (Err fault) (entry_at line (entry_of (words_of l))) → TakesLines first text old (Err fault) new
  lines_refused l after (BadLine k) new cut is = entries_refused first text so_far.entries line rest l after k so_far.read cut is
  lines_refused l after WantMemory new cut is = tt
