-- The files of a link. These words are for contracts inside of this crate.
use Rattle.std.specs.Prelude.{◌≡◌, ◌⊎◌, ℕ, ⊤, List, Option, Result, Ok as OkResult, Err}
use Rattle.outside.specs.Keeping.{Contents}
use Rattle.command_words.specs.Auditing.{LinkNames}
use Rattle.poa_journal.specs.declared.fault.JournalFault.{JournalFault}
use Rattle.poa_journal.specs.declared.fault.JournalFault.TheVariants as fault
use Rattle.poa_journal.specs.Whole.{Contents as JournalContents, contents_of}
use Rattle.poad_files.specs.Taking.{IsHeld}
use Rattle.poad_files.specs.declared.status.Status.{Status}
use Rattle.poad_files.specs.declared.status.Status.TheVariants.{JournalRefused, WantMemory}
use Rattle.poad_audit.specs.Auditing.{LinkRefused, link_limit}

-- both are taken; or one isn't
abbrev pub TakesBytes : LinkNames → Result (List ℕ × List ℕ) Status → Option Contents → Option Contents → Type 0
TakesBytes names (OkResult bytes) old new = IsHeld names.input link_limit bytes.0 old new × IsHeld names.output link_limit bytes.1 old new
TakesBytes names (Err status) old new = LinkRefused names status old new

-- the status where a text isn't read as a journal
abbrev pub refusal_of : JournalFault → Status
refusal_of (fault.BadLine line) = JournalRefused line
refusal_of fault.WantMemory = WantMemory

abbrev pub RefusesText : List ℕ → Status → Type 0
RefusesText text (JournalRefused line) = contents_of text ≡ Err line
RefusesText text WantMemory = ⊤
RefusesText text status = ⊥

-- the status where a file isn't taken, of a text that is a journal; else that of the text
abbrev pub Untaken : List ℕ → Status → Status → Type 0
Untaken text status result = ((result ≡ status) × (journal : JournalContents) × (contents_of text ≡ OkResult journal)) ⊎ RefusesText text result
