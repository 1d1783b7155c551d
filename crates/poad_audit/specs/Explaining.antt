-- What `explain` writes, and its status.
use Rattle.std.specs.Prelude.{◌≡◌, ℕ, ◌+◌, ◌^◌, ◌<◌, IfSome, List, [], ◌++◌, Option, Some, None, Ok as OkResult, Err, take}
use Rattle.std.specs.Option.{IsSomeAnd}
use Rattle.outside.specs.Keeping.{Contents}
use Rattle.outside.specs.Told.{IfTold}
use Rattle.poa_base.specs.declared.Config.{Config}
use Rattle.poa_journal.specs.Whole.{contents_of}
use Rattle.journal_audit.specs.declared.Refusal.{Refusal}
use Rattle.journal_explain.specs.declared.Selection.{Selection}
use Rattle.journal_explain.specs.declared.Selection.TheVariants as asked
use Rattle.journal_explain.specs.declared.Explanation.{Explanation}
use Rattle.journal_explain.specs.declared.Watch.{Watch}
use Rattle.journal_explain.specs.Explaining.{Explains}
use Rattle.poad_audit.specs.Auditing.{NotTaken, journal_limit}
use Rattle.poad_audit.specs.Printing.{due_line}
use Rattle.poad_files.specs.Showing.{GainsNothing}
use Rattle.poad_files.specs.Taking.{IsHeld, TakesConfig}
use Rattle.poad_files.specs.declared.status.Status.{Status}
use Rattle.poad_files.specs.declared.status.Status.TheVariants.{Ok, Illegal, ConfigRefused, JournalRefused, WriteFault, FileFault, WantMemory, NoFile, FileTooLong}
use Rattle.poad_audit.specs.Objects.{object_text}
use Rattle.poad_audit.specs.Picture.{picture_text}
use Rattle.poad_audit.specs.Story.{calls_text}
use Rattle.poad_audit.specs.Table.{table_text}

-- what is told of the calls that are asked for, of an object, or of all calls
abbrev pub text_asked : Selection → ℕ → Watch → List ℕ
text_asked asked.All line w = table_text line w.came.items
text_asked (asked.Object path oid) line w = object_text line path oid w.object
text_asked (asked.Picture from to) line w = picture_text w.trails.items from to
text_asked which line w = calls_text line w.trails.items

abbrev pub watch_text : ℕ → Watch → List ℕ
watch_text line w = text_asked w.asked line w

-- where all entries are legal, else nothing
abbrev pub told_by : ℕ → Option Refusal → Watch → List ℕ
told_by line None w = watch_text line w
told_by line (Some refusal) w = []

abbrev pub told_text : Explanation → List ℕ
told_text x = told_by x.first_line x.refusal x.watch

-- the line of the first entry that isn't legal has a number
abbrev pub HasLine : Explanation → Type 0
HasLine x = IfSome x.refusal (λ r. x.first_line + r.entry < 2 ^ 64)

-- `Ok` where all entries are legal; else the first that isn't, with the number of its line
abbrev pub EndsExplain : Status → Explanation → Type 0
EndsExplain Ok x = x.refusal ≡ None
EndsExplain (Illegal entry line due) x =
    IsSomeAnd x.refusal (λ r. (entry ≡ r.entry) × (line ≡ x.first_line + r.entry) × (due ≡ due_line r.due))
EndsExplain status x = ⊥

-- what was found is written; a fault of writing leaves a front of it, and want of memory nothing
abbrev pub Tells : Explanation → Status → Option (List ℕ) → Option (List ℕ) → Type 0
Tells x WriteFault old new = IfTold old new (λ before after. (n : ℕ) × (after ≡ before ++ take n (told_text x)))
Tells x WantMemory old new = GainsNothing old new
Tells x status old new = EndsExplain status x × IfTold old new (λ before after. after ≡ before ++ told_text x)

-- the text is a journal, of which this is found
pub record ExplainsEntries (c : Config) (limit : ℕ) (which : Selection) (text : List ℕ) (status : Status) (old new : Option (List ℕ)) : Type 0 where
  pub found : Explanation
  pub explains : Explains c limit which text found
  pub tells : Tells found status old new

-- or this line is the first that is none of a journal's
abbrev pub ExplainsJournal : Config → ℕ → Selection → List ℕ → Status → Option (List ℕ) → Option (List ℕ) → Type 0
ExplainsJournal c limit which text (JournalRefused line) old new = (contents_of text ≡ Err line) × GainsNothing old new
ExplainsJournal c limit which text WantMemory old new = GainsNothing old new
ExplainsJournal c limit which text status old new = ExplainsEntries c limit which text status old new

-- of the configuration and the journal that the files hold under these names
pub record ExplainsTaken (file journal : List ℕ) (limit : ℕ) (which : Selection) (status : Status) (files_old files_new : Option Contents)
    (held_old held_new : Option (List ℕ)) : Type 0 where
  pub config : Config
  pub text : List ℕ
  pub takes_config : TakesConfig file (OkResult config) files_old files_new
  pub holds_journal : IsHeld journal journal_limit text files_old files_new
  pub explains : ExplainsJournal config limit which text status held_old held_new

-- where one of them isn't taken, nothing is written
abbrev pub ExplainsFiles : List ℕ → List ℕ → ℕ → Selection → Status → Option Contents → Option Contents → Option (List ℕ) → Option (List ℕ) → Type 0
ExplainsFiles file journal limit which (ConfigRefused fault) files_old files_new old new =
    TakesConfig file (Err (ConfigRefused fault)) files_old files_new × GainsNothing old new
ExplainsFiles file journal limit which NoFile files_old files_new old new =
    NotTaken file journal NoFile files_old files_new × GainsNothing old new
ExplainsFiles file journal limit which FileTooLong files_old files_new old new =
    NotTaken file journal FileTooLong files_old files_new × GainsNothing old new
ExplainsFiles file journal limit which FileFault files_old files_new old new = GainsNothing old new
ExplainsFiles file journal limit which WantMemory files_old files_new old new = GainsNothing old new
ExplainsFiles file journal limit which status files_old files_new old new =
    ExplainsTaken file journal limit which status files_old files_new old new
