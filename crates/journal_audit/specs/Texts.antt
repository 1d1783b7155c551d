-- What an audit of a journal's text finds.
use Rattle.std.specs.Prelude.{◌≡◌, ℕ, ◌+◌, ◌^◌, ◌<◌, ◌≤◌, ⊤, IfSome, List, ◌∷◌, length, Option, Some, None, Result, Ok, Err}
use Rattle.poa_base.specs.declared.Config.{Config}
use Rattle.poa_base.specs.declared.Entry.{Entry}
use Rattle.poa_base.specs.Store.{Slots, states, stored}
use Rattle.poa_history.specs.declared.Givens.{Givens}
use Rattle.poa_history.specs.Life.{Life, givens_of, opened}
use Rattle.text_words.specs.Cuts.{lines_of, words_of}
use Rattle.poa_journal.specs.declared.fault.JournalFault.{JournalFault}
use Rattle.poa_journal.specs.declared.fault.JournalFault.TheVariants.{BadLine, WantMemory}
use Rattle.poa_journal.specs.Whole.{Contents, contents_of, entries_of, front_seen, head_of, rows_front}
use Rattle.journal_audit.specs.declared.finding.Audit.{Audit}
use Rattle.journal_audit.specs.declared.finding.Audit.TheVariants.{Legal, Illegal}
use Rattle.journal_audit.specs.declared.front.Front.{Front}
use Rattle.journal_audit.specs.declared.matched.Matched.{Matched}
use Rattle.journal_audit.specs.declared.refusal.Refusal.{Refusal}
use Rattle.journal_audit.specs.declared.report.Report.{Report}
use Rattle.journal_audit.specs.declared.watch.Watch.{Watch}
use Rattle.journal_audit.specs.Auditing.{AuditSays, HasTaken, IsRefused, IsSound}
use Rattle.journal_audit.specs.Looking.{MatchesIn, Watches, link_of}
use Rattle.journal_audit.specs.Matching.{LinkBytes, Matches}

-- the entries of lines, of which the first has this number, were shown to those who watch
pub record LinesTaken (first : ℕ) (text : List ℕ) (old : Watch) (count : ℕ) (new : Watch) : Type 0 where
  pub entries : List Entry
  pub read : entries_of first (lines_of text) ≡ Ok entries
  pub counted : count ≡ length entries
  pub fits : first + count ≤ first + length text
  pub taken : HasTaken entries new.auditor
  pub given : givens_of new.auditor.run ≡ givens_of old.auditor.run
  pub watches : Watches new
  pub link : link_of new ≡ link_of old

abbrev pub TakesLines : ℕ → List ℕ → Watch → Result ℕ JournalFault → Watch → Type 0
TakesLines first text old (Ok count) new = LinesTaken first text old count new
TakesLines first text old (Err (BadLine line)) new = entries_of first (lines_of text) ≡ Err line
TakesLines first text old (Err WantMemory) new = ⊤

abbrev pub IsSoundRun : Life → Type 0
IsSoundRun life = IsSound life.config life.run life.limit (opened life) life.history

-- and then it was told what was found of the link, of the run behind the last entry
pub record LinesAudited (first : ℕ) (text : List ℕ) (old : Watch) (count : ℕ) (matched : Option Matched) (new : Watch) : Type 0 where
  pub last : Watch
  pub taken : LinesTaken first text old count last
  pub sound : IsSoundRun last.auditor.run
  pub told : MatchesIn last.auditor.refusal last.auditor.run (link_of old) matched
  pub refusal : new.auditor.refusal ≡ last.auditor.refusal

abbrev pub AuditsLines : ℕ → List ℕ → Watch → Result (ℕ × Option Matched) JournalFault → Watch → Type 0
AuditsLines first text old (Ok found) new = LinesAudited first text old found.0 found.1 new
AuditsLines first text old (Err (BadLine line)) new = entries_of first (lines_of text) ≡ Err line
AuditsLines first text old (Err WantMemory) new = ⊤

-- what a report says of a journal
abbrev pub audit_of : Option Refusal → Audit
audit_of None = Legal
audit_of (Some r) = Illegal r.entry r.rule

-- all entries are legal; or this is the first that isn't, with what would have been allowed in its place
abbrev pub Tells : Config → ℕ → ℕ → List Entry → Option Refusal → Type 0
Tells c run limit entries None = ⊤
Tells c run limit entries (Some r) = IsRefused c run limit entries r

-- the front of a text: its head line, its rows, and the number and the text of the lines behind these
pub record IsFront (text : List ℕ) (front : Front) : Type 0 where
  pub head : List ℕ
  pub rows : List (List ℕ)
  pub lines : lines_of text ≡ head ∷ rows
  pub run : head_of (words_of head) ≡ Ok front.run
  pub opening : rows_front 2 None rows ≡ Ok (front_seen front.opening)

-- each line has a number
abbrev pub HasRoom : Front → Type 0
HasRoom front = front.opening.line + length front.opening.rest.now < 2 ^ 64

abbrev pub ReadsFront : List ℕ → Result Front JournalFault → Type 0
ReadsFront text (Ok front) = IsFront text front × HasRoom front
ReadsFront text (Err (BadLine line)) = contents_of text ≡ Err line
ReadsFront text (Err WantMemory) = ⊤

-- the run of a journal
abbrev pub givens_in : Config → ℕ → Contents → Slots → Givens
givens_in c limit journal opening = record { config = c; run = journal.run; limit = limit; opening = opening }

-- the text is a journal, of which the report tells
pub record Audits (c : Config) (limit : ℕ) (text : List ℕ) (link : Option LinkBytes) (report : Report) : Type 0 where
  pub journal : Contents
  pub reads : contents_of text ≡ Ok journal
  -- what was stored when the run began
  pub opening : Slots
  pub rows : states opening ≡ journal.rows
  pub counted : report.entries ≡ length journal.entries
  pub first : report.first_line ≡ 2 + length journal.rows
  pub says : AuditSays c journal.run limit (stored opening) journal.entries (audit_of report.refusal)
  pub tells : Tells c journal.run limit journal.entries report.refusal
  pub matches : Matches (givens_in c limit journal opening) journal.entries report.refusal link report.matched
  -- the line of that entry has a number
  pub numbered : IfSome report.refusal (λ r. report.first_line + r.entry < 2 ^ 64)

-- or this line is the first that is none of a journal's
abbrev pub AuditsText : Config → ℕ → List ℕ → Option LinkBytes → Result Report JournalFault → Type 0
AuditsText c limit text link (Ok report) = Audits c limit text link report
AuditsText c limit text link (Err (BadLine line)) = contents_of text ≡ Err line
AuditsText c limit text link (Err WantMemory) = ⊤

-- the same of each text with this front
abbrev pub AuditsFront : Config → ℕ → Option LinkBytes → Front → Result Report JournalFault → Type 0
AuditsFront c limit link front result = (text : List ℕ) → IsFront text front → AuditsText c limit text link result
