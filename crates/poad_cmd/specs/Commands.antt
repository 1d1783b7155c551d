-- What a command does. These words are for a contract inside of this crate.
use Rattle.std.specs.Prelude.{◌≡◌, ℕ, List, Option}
use Rattle.outside.specs.Keeping.{Contents}
use Rattle.command_words.specs.Words.{Meant, answer, audit, explain, load, names, show, check, iors, migrate, loc, replay}
use Rattle.command_words.specs.declared.CallsAsked.{CallsAsked}
use Rattle.command_words.specs.declared.CallsAsked.TheVariants as words
use Rattle.journal_explain.specs.declared.Selection.{Selection}
use Rattle.journal_explain.specs.declared.Selection.TheVariants as calls
use Rattle.poad_files.specs.declared.Asked.TheVariants.{Counts, References}
use Rattle.poad_files.specs.Filing.{Filed}
use Rattle.poad_files.specs.Migrating.{MigratesFile}
use Rattle.poad_files.specs.Locating.{Locates}
use Rattle.poad_files.specs.Showing.{Tells}
use Rattle.poad_files.specs.declared.status.Status.{Status}
use Rattle.poad_answer.specs.Answering.{AnswersBy}
use Rattle.poad_audit.specs.Auditing.{AuditsFiles}
use Rattle.poad_audit.specs.Explaining.{ExplainsFiles}
use Rattle.poad_cmd.specs.Playing.{PlaysFiles}
use Rattle.poad_load.specs.Writing.{LoadGives}
use Rattle.poad_answer.specs.declared.names_end.NamesEnd.{NamesEnd}
use Rattle.poad_answer.specs.NamesRun.{RunNames, status_of}

-- a run of naming contexts ended with this status
abbrev pub RunsNames : Status → (left_old left_new held_old held_new : Option (List ℕ)) → Type 0
RunsNames status left_old left_new held_old held_new =
    (end : NamesEnd) × (status ≡ status_of end) × RunNames end left_old left_new held_old held_new

-- the calls that words ask for
abbrev pub sought : CallsAsked → Selection
sought (words.Arrival r) = calls.Arrival r
sought (words.Call conn id) = calls.Call conn id
sought (words.Object path oid) = calls.Object path oid
sought (words.Picture from to) = calls.Picture from to
sought words.All = calls.All

-- by the contents of the files, what is left of the source and what the sink holds, before and after, and by the source and the files
-- themselves
abbrev pub Does : {S F : Type 0} → Meant → Status → Option Contents → Option Contents
    → (left_old left_new held_old held_new : Option (List ℕ)) → S → S → F → F → Type 0
Does (answer name) status old new left_old left_new held_old held_new source_old source_new files_old files_new =
    AnswersBy name status old new left_old left_new held_old held_new
Does (replay file script) status old new left_old left_new held_old held_new source_old source_new files_old files_new =
    PlaysFiles file script status old new held_old held_new × (source_new ≡ source_old)
Does (load n start) status old new left_old left_new held_old held_new source_old source_new files_old files_new =
    LoadGives n start status held_old held_new × (source_new ≡ source_old) × (files_new ≡ files_old)
Does (show text) status old new left_old left_new held_old held_new source_old source_new files_old files_new =
    Tells status text held_old held_new × (source_new ≡ source_old) × (files_new ≡ files_old)
Does (loc text) status old new left_old left_new held_old held_new source_old source_new files_old files_new =
    Locates status text held_old held_new × (source_new ≡ source_old) × (files_new ≡ files_old)
Does (check name) status old new left_old left_new held_old held_new source_old source_new files_old files_new =
    Filed Counts name status old new held_old held_new × (source_new ≡ source_old)
Does (iors name) status old new left_old left_new held_old held_new source_old source_new files_old files_new =
    Filed References name status old new held_old held_new × (source_new ≡ source_old)
Does (migrate name text) status old new left_old left_new held_old held_new source_old source_new files_old files_new =
    MigratesFile name text status old new held_old held_new × (source_new ≡ source_old)
Does (audit a) status old new left_old left_new held_old held_new source_old source_new files_old files_new =
    AuditsFiles a status old new held_old held_new × (source_new ≡ source_old)
Does (explain e) status old new left_old left_new held_old held_new source_old source_new files_old files_new =
    ExplainsFiles e.config e.journal e.limit (sought e.calls) status old new held_old held_new × (source_new ≡ source_old)
Does names status old new left_old left_new held_old held_new source_old source_new files_old files_new =
    RunsNames status left_old left_new held_old held_new × (files_new ≡ files_old)
