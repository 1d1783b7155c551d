-- The lines of a journal's entries, heard one by one.
use Rattle.std.proofs.Common.{◌≡◌, ℕ, ◌+◌, ◌-◌, ◌<◌, ◌≤◌, List, [], ◌∷◌, ◌++◌, length, Ok, Err, refl, ◌∙◌, arith, length-append}
use Rattle.poa_base.specs.declared.Entry.{Entry}
use Rattle.poa_history.specs.Life.{givens_of}
use Rattle.text_words.specs.Cuts.{lines_of, words_of}
use Rattle.text_words.specs.Token.{spelled}
use Rattle.poa_journal.specs.declared.fault.JournalFault.{JournalFault}
use Rattle.poa_journal.specs.declared.fault.JournalFault.TheVariants.{BadLine, WantMemory}
use Rattle.poa_journal.specs.Entry.{entry_tokens}
use Rattle.poa_journal.specs.Reading.{entry_of}
use Rattle.poa_journal.specs.Whole.{JournalReads, entry_at}
use Rattle.poa_journal.proofs.Fronts.{EntriesRead, entries_begin, entries_step, entries_refused, entries_ended}
use Rattle.journal_audit.specs.Auditing.{HasTaken}
use Rattle.journal_audit.proofs.Stepping.{taken_then}
use Rattle.journal_explain.specs.declared.explainer.Explainer.{Explainer}
use Rattle.journal_explain.specs.Explaining.{Hears, HearsLines, LinesHeard, Sees}

-- entries were read of a text from line `first` on, and heard; the next line is `line`, where `rest` begins
pub record HeardSoFar (first : ℕ) (text : List ℕ) (old : Explainer) (line : ℕ) (rest : List ℕ) (now : Explainer) : Type 0 where
  pub entries : List Entry
  pub read : EntriesRead first text entries line rest
  pub counted : line ≡ first + length entries
  pub taken : HasTaken entries now.auditor
  pub given : givens_of now.auditor.run ≡ givens_of old.auditor.run
  pub same : now.watch.asked ≡ old.watch.asked
  pub sees : Sees now

pub heard_begin : (first : ℕ) (text : List ℕ) (x : Explainer) → HasTaken [] x.auditor → Sees x → HeardSoFar first text x first text x
heard_begin first text x had sees =
    record { entries = []; read = entries_begin first text; counted = omega arith; taken = had; given = refl; same = refl; sees = sees }

module _ (first : ℕ) (text : List ℕ) (old : Explainer) (line : ℕ) (rest : List ℕ) (now : Explainer) (so_far : HeardSoFar first text old line rest now) where
  pub heard_step : (l after : List ℕ) (e : Entry) (new : Explainer) → lines_of rest ≡ l ∷ lines_of after → length after < length rest
      → entry_at line (entry_of (words_of l)) ≡ Ok e → l ≡ spelled (entry_tokens e) → Hears e now new
      → HeardSoFar first text old (line + 1) after new
  heard_step l after e new cut shorter is spells hears = record {
    entries = so_far.entries ++ e ∷ [];
    read = entries_step first text so_far.entries line rest l after e so_far.read cut shorter is spells;
    counted = omega (arith, so_far.counted, length-append so_far.entries (e ∷ []));
    taken = taken_then so_far.entries e now.auditor new.auditor so_far.taken hears.takes;
    given = hears.takes.given ∙ so_far.given;
    same = hears.same ∙ so_far.same;
    sees = hears.sees so_far.sees;
  }

  -- there is a number more than that of the line
  pub heard_room : (after : List ℕ) → length after < length rest → line + 1 ≤ first + length text
  heard_room after shorter = omega (arith, so_far.read.bound)

  pub heard_count : first ≤ line
  heard_count = omega (arith, so_far.counted)

  pub heard_end : lines_of rest ≡ [] → LinesHeard first text old (line - first) now
  heard_end none = record {
    entries = so_far.entries;
    read = entries_ended first text so_far.entries line rest so_far.read none;
    counted = omega (arith, so_far.counted);
    fits = omega (arith, so_far.counted, so_far.read.bound);
    taken = so_far.taken;
    given = so_far.given;
    same = so_far.same;
    sees = so_far.sees;
  }

  pub heard_refused : (l after : List ℕ) (fault : JournalFault) (new : Explainer) → lines_of rest ≡ l ∷ lines_of after
      → JournalReads (λ (e : Entry). e) (Err fault) (entry_at line (entry_of (words_of l))) → HearsLines first text old (Err fault) new
  heard_refused l after (BadLine k) new cut is = entries_refused first text so_far.entries line rest l after k so_far.read cut is
  heard_refused l after WantMemory new cut is = tt
