-- What `audit` writes, and its status.
use Rattle.std.specs.Prelude.{◌≡◌, ℕ, ⊤, List, ◌++◌, Option, Some, None, Ok as OkResult, Err, take}
use Rattle.outside.specs.Keeping.{Contents}
use Rattle.outside.specs.Told.{IfTold}
use Rattle.command_words.specs.Auditing.{Audit, LinkNames}
use Rattle.poa_base.specs.declared.Config.{Config}
use Rattle.poa_journal.specs.Whole.{Contents as JournalContents, contents_of}
use Rattle.journal_audit.specs.Matching.{LinkBytes}
use Rattle.journal_audit.specs.declared.report.Report.{Report}
use Rattle.journal_audit.specs.Texts.{Audits}
use Rattle.poad_files.specs.Showing.{GainsNothing}
use Rattle.poad_files.specs.Taking.{IsHeld, Refused, TakesConfig}
use Rattle.poad_files.specs.declared.status.Status.{Status}
use Rattle.poad_files.specs.declared.status.Status.TheVariants.{ConfigRefused, JournalRefused, WriteFault, FileFault, WantMemory, NoFile, FileTooLong}
use Rattle.poad_audit.specs.Printing.{EndsAudit, report_line}

-- a journal has at most so many bytes
abbrev pub journal_limit : ℕ
journal_limit = 268435456

-- and so many at most were read of a peer, and were written to it
abbrev pub link_limit : ℕ
link_limit = 67108864

-- what was found is written; a fault of writing leaves a front of it, and want of memory nothing
abbrev pub Tells : Report → Status → Option (List ℕ) → Option (List ℕ) → Type 0
Tells report WriteFault old new = IfTold old new (λ before after. (n : ℕ) × (after ≡ before ++ take n (report_line report)))
Tells report WantMemory old new = GainsNothing old new
Tells report status old new = EndsAudit status report × IfTold old new (λ before after. after ≡ before ++ report_line report)

-- the text is a journal, of which this is found, and of the link where one is asked for
pub record AuditsEntries (c : Config) (limit : ℕ) (text : List ℕ) (link : Option LinkBytes) (status : Status) (old new : Option (List ℕ)) : Type 0 where
  pub report : Report
  pub audits : Audits c limit text link report
  pub tells : Tells report status old new

-- or this line is the first that is none of a journal's
abbrev pub AuditsBytes : Config → ℕ → List ℕ → Option LinkBytes → Status → Option (List ℕ) → Option (List ℕ) → Type 0
AuditsBytes c limit text link (JournalRefused line) old new = (contents_of text ≡ Err line) × GainsNothing old new
AuditsBytes c limit text link WantMemory old new = GainsNothing old new
AuditsBytes c limit text link status old new = AuditsEntries c limit text link status old new

-- the bytes of a link are those that the files hold under its names
pub record HoldsLink (names : LinkNames) (link : LinkBytes) (files_old files_new : Option Contents) : Type 0 where
  pub conn : link.conn ≡ names.conn
  pub input : IsHeld names.input link_limit link.input files_old files_new
  pub output : IsHeld names.output link_limit link.output files_old files_new

abbrev pub TakesLink : Option LinkNames → Option LinkBytes → Option Contents → Option Contents → Type 0
TakesLink None None files_old files_new = ⊤
TakesLink (Some names) (Some link) files_old files_new = HoldsLink names link files_old files_new
TakesLink names link files_old files_new = ⊥

-- what was read isn't taken; or it is, and what was written isn't
pub data LinkRefused (names : LinkNames) (status : Status) (files_old files_new : Option Contents) : Type 0 where
  no_input : Refused names.input link_limit status files_old files_new → LinkRefused names status files_old files_new
  no_output : (input : List ℕ) → IsHeld names.input link_limit input files_old files_new → Refused names.output link_limit status files_old files_new
      → LinkRefused names status files_old files_new

abbrev pub RefusesLink : Option LinkNames → Status → Option Contents → Option Contents → Type 0
RefusesLink None status files_old files_new = ⊥
RefusesLink (Some names) status files_old files_new = LinkRefused names status files_old files_new

-- the text is a journal, and a file of the link that is asked for isn't taken
pub record NoLink (text : List ℕ) (names : Option LinkNames) (status : Status) (files_old files_new : Option Contents) : Type 0 where
  pub journal : JournalContents
  pub reads : contents_of text ≡ OkResult journal
  pub refused : RefusesLink names status files_old files_new

-- with the bytes of the link that the files hold
pub record AuditsLink (c : Config) (limit : ℕ) (text : List ℕ) (names : Option LinkNames) (status : Status) (files_old files_new : Option Contents)
    (old new : Option (List ℕ)) : Type 0 where
  pub link : Option LinkBytes
  pub takes_link : TakesLink names link files_old files_new
  pub audits : AuditsEntries c limit text link status old new

-- of the journal of a text; that it is none comes before a file of the link that isn't taken
abbrev pub AuditsJournal : Config → ℕ → List ℕ → Option LinkNames → Status → Option Contents → Option Contents → Option (List ℕ) → Option (List ℕ) → Type 0
AuditsJournal c limit text names (JournalRefused line) files_old files_new old new = (contents_of text ≡ Err line) × GainsNothing old new
AuditsJournal c limit text names NoFile files_old files_new old new = NoLink text names NoFile files_old files_new × GainsNothing old new
AuditsJournal c limit text names FileTooLong files_old files_new old new = NoLink text names FileTooLong files_old files_new × GainsNothing old new
AuditsJournal c limit text names FileFault files_old files_new old new = GainsNothing old new
AuditsJournal c limit text names WantMemory files_old files_new old new = GainsNothing old new
AuditsJournal c limit text names status files_old files_new old new = AuditsLink c limit text names status files_old files_new old new

-- of the configuration and the journal that the files hold under these names
pub record AuditsTaken (asked : Audit) (status : Status) (files_old files_new : Option Contents) (held_old held_new : Option (List ℕ)) : Type 0 where
  pub config : Config
  pub text : List ℕ
  pub takes_config : TakesConfig asked.config (OkResult config) files_old files_new
  pub holds_journal : IsHeld asked.journal journal_limit text files_old files_new
  pub audits : AuditsJournal config asked.limit text asked.link status files_old files_new held_old held_new

-- where the configuration isn't taken, or, behind an accepted configuration, the journal isn't, nothing is written
pub record NoJournal (file journal : List ℕ) (status : Status) (files_old files_new : Option Contents) : Type 0 where
  pub config : Config
  pub takes_config : TakesConfig file (OkResult config) files_old files_new
  pub refused : Refused journal journal_limit status files_old files_new

pub data NotTaken (file journal : List ℕ) (status : Status) (files_old files_new : Option Contents) : Type 0 where
  no_config : TakesConfig file (Err status) files_old files_new → NotTaken file journal status files_old files_new
  no_journal : NoJournal file journal status files_old files_new → NotTaken file journal status files_old files_new

-- or, behind both of them, a file of the link isn't
pub data NotAudited (asked : Audit) (status : Status) (files_old files_new : Option Contents) (held_old held_new : Option (List ℕ)) : Type 0 where
  not_taken : NotTaken asked.config asked.journal status files_old files_new → GainsNothing held_old held_new
      → NotAudited asked status files_old files_new held_old held_new
  no_link : AuditsTaken asked status files_old files_new held_old held_new → NotAudited asked status files_old files_new held_old held_new

abbrev pub AuditsFiles : Audit → Status → Option Contents → Option Contents → Option (List ℕ) → Option (List ℕ) → Type 0
AuditsFiles asked (ConfigRefused fault) files_old files_new old new =
    TakesConfig asked.config (Err (ConfigRefused fault)) files_old files_new × GainsNothing old new
AuditsFiles asked NoFile files_old files_new old new = NotAudited asked NoFile files_old files_new old new
AuditsFiles asked FileTooLong files_old files_new old new = NotAudited asked FileTooLong files_old files_new old new
AuditsFiles asked FileFault files_old files_new old new = GainsNothing old new
AuditsFiles asked WantMemory files_old files_new old new = GainsNothing old new
AuditsFiles asked status files_old files_new old new = AuditsTaken asked status files_old files_new old new
