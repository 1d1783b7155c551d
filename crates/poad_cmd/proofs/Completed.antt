-- Each command ends well where nothing outside fails and what it works on is accepted.
use Rattle.std.proofs.Common.{◌≡◌, ◌⊎◌, IfSome, ℕ, true, false, ◌<◌, ◌≤◌, List, length, reverse, Option, None, Some, Ok as OkResult, Err, inl, inr, refl, sym, ◌∙◌, subst, arith}
use Rattle.std.specs.Option.{IsSomeAnd}
use Rattle.std.proofs.lemmas.Option.{same_Some}
use Rattle.command_words.specs.Auditing.{Audit, LinkNames}
use Rattle.command_words.specs.Explaining.{Explain}
use Rattle.command_words.specs.Words.{Meant, answer, audit, explain, load, names, show, check, iors, migrate, loc, replay}
use Rattle.outside.specs.Cause.{HasCause}
use Rattle.outside.specs.Keeping.{Contents}
use Rattle.outside.specs.Told.{IfTold}
use Rattle.poa_base.specs.declared.Config.{Config}
use Rattle.poad_answer.specs.Answering.{AnswersBy, NamesConfig, served, unnamed}
use Rattle.poad_answer.specs.Run.{RunAnswers}
use Rattle.journal_audit.proofs.Spoiled.{spoiled}
use Rattle.journal_audit.specs.Auditing.{AuditSays, IsRefused}
use Rattle.journal_audit.specs.Matching.{IsSession, LinkBytes, Matches}
use Rattle.journal_audit.specs.Texts.{Audits, audit_of, givens_in}
use Rattle.journal_audit.specs.declared.matched.Matched.{Matched}
use Rattle.journal_audit.specs.declared.refusal.Refusal.{Refusal}
use Rattle.journal_audit.specs.declared.report.Report.{Report}
use Rattle.poa_base.specs.Store.{stored}
use Rattle.poa_history.specs.declared.Givens.{Givens}
use Rattle.poa_base.specs.declared.Entry.{Entry}
use Rattle.poa_history.specs.Legal.{IsLegal}
use Rattle.poa_journal.specs.Whole.{Contents as JournalContents}
use Rattle.journal_explain.specs.declared.Selection.{Selection}
use Rattle.journal_explain.specs.declared.Explanation.{Explanation}
use Rattle.journal_explain.specs.Explaining.{Explains, TellsWhereLegal}
use Rattle.poad_audit.specs.Explaining.{ExplainsFiles, ExplainsJournal, Tells as TellsCallOf}
use Rattle.poad_audit.specs.Auditing.{AuditsEntries, AuditsFiles, AuditsJournal, AuditsTaken, LinkRefused, NotAudited, NotTaken as NotExplained, RefusesLink, TakesLink, Tells as TellsAudit, journal_limit, link_limit, no_config as no_audit_config, no_input, no_journal, no_link, no_output, not_taken}
use Rattle.poad_cmd.specs.Commands.{Does, RunsNames, sought}
use Rattle.poad_cmd.specs.Complete.{Configures, Fits, FitsAnswer, FitsAudit, FitsExplain, FitsReplay, HoldConfig, HoldOutput, HoldScript, HoldSession, HoldSuch, IsAuditable, IsCalm, IsConfigured, IsLegalJournal, IsLocatable, IsReference, IsScript, IsSessionIn, IsWholeInput, IsWholeScript}
use Rattle.poad_cmd.specs.Playing.{EndsPlay, NotTaken, PlaysFiles, PlaysTaken, no_config, no_script}
use Rattle.poad_cmd.proofs.Wholly.{IsWell, run_well}
use Rattle.poad_files.proofs.Accepted.{reads_accepted}
use Rattle.poad_files.proofs.Refusing.{never_lacking, unrefused, written_unrefused}
use Rattle.poad_files.specs.Filing.{Filed, Printed}
use Rattle.poad_files.specs.Locating.{Locates}
use Rattle.poad_files.specs.Migrating.{MigratesFile, MigratesText}
use Rattle.poad_files.specs.Showing.{Tells}
use Rattle.poad_files.specs.Taking.{IsAccepted, IsHeld, OfContent, Refused, TakesConfig, TakesScript, config_limit, script_limit}
use Rattle.poad_files.specs.declared.Asked.{Asked}
use Rattle.poad_files.specs.declared.Asked.TheVariants.{Counts, References}
use Rattle.poad_files.specs.declared.status.Status.{Status}
use Rattle.poad_files.specs.declared.status.Status.TheVariants.{ConfigRefused, FileFault, FileTooLong, Held, Illegal, JournalRefused, Limit, LocRefused, NoFile, NoLoc, NoMatch, Ok, ReadFault, ScriptRefused, TextRefused, WantMemory, WriteFault}
use Rattle.poad_load.specs.Writing.{LoadGives}
use Rattle.poad_answer.specs.declared.names_end.NamesEnd.{NamesEnd}
use Rattle.poad_answer.specs.declared.names_end.NamesEnd.TheVariants as names_end
use Rattle.poad_answer.specs.NamesRun.{status_of}
use Rattle.poad_answer.specs.Whole.{IsWholeInput as IsWholeNaming}
use Rattle.poad_answer.proofs.Whole.{IsWell as IsWellNaming, names_well}
use Rattle.replay_run.specs.declared.Full.{Full}

-- why a file that is held such as it has to be may still not be taken
abbrev pub IsUntaken : Status → Type 0
IsUntaken FileFault = Unit {0}
IsUntaken WantMemory = Unit {0}
IsUntaken _ = ⊥

untaken_well : (s : Status) → IsUntaken s → IsWell s
untaken_well FileFault untaken = tt
untaken_well WantMemory untaken = tt
untaken_well _ untaken = absurd untaken

-- what a file holds is what was read of it
module _ (name : List ℕ) (limit : ℕ) (IsSuch : List ℕ → Type 0) where
  such_in : (held : Option (List ℕ)) (content : List ℕ) → held ≡ Some content
      → IsSomeAnd held (λ it. (length it ≤ limit) × IsSuch it) → (length content ≤ limit) × IsSuch content
  such_in (Some it) content is such = subst (λ (x : List ℕ). (length x ≤ limit) × IsSuch x) (same_Some it content is) such
  such_in None content is such = absurd such

  such_none : (held : Option (List ℕ)) → held ≡ None → IsSomeAnd held (λ it. (length it ≤ limit) × IsSuch it) → ⊥
  such_none (Some it) is such = let e : Some it ≡ None = is in cc
  such_none None is such = such

  such_long : (held : Option (List ℕ)) → IsSomeAnd held (λ it. limit < length it) → IsSomeAnd held (λ it. (length it ≤ limit) × IsSuch it) → ⊥
  such_long (Some it) long such = let within : length it ≤ limit = such.0 in omega (arith, long, within)
  such_long None long such = such

  such_held : (old new : Option Contents) (content : List ℕ) → HoldSuch old name limit IsSuch
      → IfTold old new (λ before after. before name ≡ Some content) → IsSuch content
  such_held None new content such is = absurd such
  such_held (Some before) None content such is = absurd is
  such_held (Some before) (Some after) content such is = (such_in (before name) content is such).1

  -- what is held such as it has to be isn't refused
  unrefused_file : (s : Status) (old new : Option Contents) → HoldSuch old name limit IsSuch → Refused name limit s old new → IsUntaken s
  unrefused_file NoFile None new such refused = such
  unrefused_file NoFile (Some before) None such refused = refused
  unrefused_file NoFile (Some before) (Some after) such refused = such_none (before name) refused such
  unrefused_file FileTooLong None new such refused = such
  unrefused_file FileTooLong (Some before) None such refused = refused
  unrefused_file FileTooLong (Some before) (Some after) such refused = such_long (before name) refused such
  unrefused_file FileFault old new such refused = tt
  unrefused_file WantMemory old new such refused = tt
  unrefused_file _ old new such refused = absurd refused

-- what was read of a told file is what it holds
hold_this : (name : List ℕ) (limit : ℕ) (IsSuch Reads : List ℕ → Type 0) (old new : Option Contents) → HoldSuch old name limit IsSuch
    → OfContent name limit Reads old new → HoldSuch old name limit Reads
hold_this name limit IsSuch Reads None new such read = absurd such
hold_this name limit IsSuch Reads (Some before) None such read = absurd read.held.held
hold_this name limit IsSuch Reads (Some before) (Some after) such read =
    subst (λ (held : Option (List ℕ)). IsSomeAnd held (λ content. (length content ≤ limit) × Reads content)) (sym read.held.held)
    (read.held.within, read.reads)

-- a configuration that is accepted isn't refused
pub config_untaken : (name : List ℕ) (s : Status) (old new : Option Contents) → HoldConfig old name → TakesConfig name (Err s) old new → IsUntaken s
config_untaken name (ConfigRefused fault) old new holds taken =
    reads_accepted taken.content (such_held name config_limit IsAccepted old new taken.content holds taken.held.held) (Err (ConfigRefused fault)) taken.reads
config_untaken name s old new holds taken = unrefused_file name config_limit IsAccepted s old new holds taken

script_untaken : (name : List ℕ) (s : Status) (old new : Option Contents) → HoldScript old name → TakesScript name (Err s) old new → IsUntaken s
script_untaken name (ScriptRefused line) old new holds taken =
    absurd (let is = such_held name script_limit IsScript old new taken.content holds taken.held.held in
    let e : OkResult is.0 ≡ Err line = sym is.1 ∙ taken.reads in cc)
script_untaken name s old new holds taken = unrefused_file name script_limit IsScript s old new holds taken

-- `answer`
unnamed_well : (name : Option (List ℕ)) (s : Status) (old new : Option Contents) → IsConfigured name old → NamesConfig name (Err s) old new → IsWell s
unnamed_well None WantMemory old new is named = tt
unnamed_well None _ old new is named = absurd named
unnamed_well (Some name) s old new is named = untaken_well s (config_untaken name s old new is named)

named_this : (name : Option (List ℕ)) (c : Config) (old new : Option Contents) → IsConfigured name old → NamesConfig name (OkResult c) old new
    → Configures name old c
named_this None c old new is named = named
named_this (Some name) c old new is named = hold_this name config_limit IsAccepted _ old new is named

served_well : (c : Config) (s : Status) (left_old left_new h k : Option (List ℕ)) → IsSomeAnd left_old (IsWholeInput c)
    → RunAnswers c s left_old left_new h k → IsWell s
served_well c s None left_new h k whole run = absurd whole
served_well c s (Some text) left_new h k whole run = run_well c s text left_new h k whole run

answer_well : (name : Option (List ℕ)) (s : Status) (old new : Option Contents) (left_old left_new h k : Option (List ℕ)) → FitsAnswer name old left_old
    → AnswersBy name s old new left_old left_new h k → IsWell s
answer_well name s old new left_old left_new h k fits (unnamed named left held) = unnamed_well name s old new fits.configured named
answer_well name s old new left_old left_new h k fits (served c named run) =
    served_well c s left_old left_new h k (fits.whole c (named_this name c old new fits.configured named)) run

-- `replay`
module _ (file script : List ℕ) (old new : Option Contents) (h k : Option (List ℕ)) (fits : FitsReplay file script old) where
  unplayed_well : (s : Status) → NotTaken file script s old new → IsWell s
  unplayed_well s (no_config taken) = untaken_well s (config_untaken file s old new fits.config taken)
  unplayed_well s (no_script it) = untaken_well s (script_untaken script s old new fits.lines it.refused)

  whole_of : (s : Status) (t : PlaysTaken file script s old new h k) → IsWholeScript t.config t.lines
  whole_of s t =
      fits.whole t.config t.lines (hold_this file config_limit IsAccepted _ old new fits.config t.takes_config)
      (hold_this script script_limit IsScript _ old new fits.lines t.takes_script)

  none_full : (full : Option Full) (calls bytes : ℕ) → full ≡ None → full ≡ Some (record { arrivals = calls; bytes = bytes }) → ⊥
  none_full None calls bytes none is = cc
  none_full (Some f) calls bytes none is = let e : Some f ≡ None = none in cc

  end_well : (s : Status) (held : ℕ) (full : Option Full) → full ≡ None → held ≡ 0 → EndsPlay s held full → IsWell s
  end_well Ok held full none some ends = tt
  end_well (Held count) held full none some ends =
      absurd (let same : held ≡ count = ends.1 in let more : 0 < count = ends.2 in omega (arith, some, same, more))
  end_well (Limit calls bytes) held full none some ends = absurd (none_full full calls bytes none ends)
  end_well _ held full none some ends = absurd ends

  play_well : (s : Status) → PlaysFiles file script s old new h k → IsWell s
  play_well Ok plays = tt
  play_well WriteFault plays = tt
  play_well FileFault plays = tt
  play_well WantMemory plays = tt
  play_well (ConfigRefused fault) plays = unplayed_well (ConfigRefused fault) plays.0
  play_well (ScriptRefused line) plays = unplayed_well (ScriptRefused line) plays.0
  play_well NoFile plays = unplayed_well NoFile plays.0
  play_well FileTooLong plays = unplayed_well FileTooLong plays.0
  play_well s plays =
      let whole = whole_of s plays plays.plays.played plays.plays.is in
      end_well s plays.plays.played.held plays.plays.played.full whole.0 whole.1 plays.plays.ends

-- `load`
load_well : (n start : ℕ) (s : Status) (h k : Option (List ℕ)) → LoadGives n start s h k → IsWell s
load_well n start Ok h k gives = tt
load_well n start WriteFault h k gives = tt
load_well n start WantMemory h k gives = tt
load_well n start _ h k gives = absurd gives

-- `audit`
abbrev IsSessionOr : Givens → List Entry → Option LinkBytes → Type 0
IsSessionOr g entries link = IfSome link (IsSession g entries)

never_unmatched : (g : Givens) (entries : List Entry) (conn : ℕ) (refusal : Option Refusal) (link : Option LinkBytes) (matched : Option Matched)
    → refusal ≡ None → Matches g entries refusal link matched → IsSessionOr g entries link
    → IsSomeAnd matched (λ (m : Matched). (m.conn ≡ conn) × (m.is_session ≡ false)) → ⊥
never_unmatched g entries conn (Some r) link matched none matches session is = (let e : Some r ≡ None = none in cc)
never_unmatched g entries conn None None None none matches session is = is
never_unmatched g entries conn None None (Some m) none matches session is = (let e : Some m ≡ None = matches in cc)
never_unmatched g entries conn None (Some link) None none matches session is = is
never_unmatched g entries conn None (Some link) (Some m) none matches session is =
    (let yes : m.is_session ≡ true = matches.1.1 session in let no : m.is_session ≡ false = is.1 in let e : true ≡ false = sym yes ∙ no in cc)

module _ (c : Config) (limit : ℕ) (text : List ℕ) (legal : IsLegalJournal c limit text) (h k : Option (List ℕ)) where
  never_bad : (P : Refusal → Type 0) (link : Option LinkBytes) (report : Report) → Audits c limit text link report → (found : Option Refusal)
      → report.refusal ≡ found → IsSomeAnd found P → ⊥
  never_bad P link report audits None is some = some
  never_bad P link report audits (Some r) is some =
      let read : OkResult audits.journal ≡ OkResult legal.journal = sym audits.reads ∙ legal.reads in
      let same : audits.journal ≡ legal.journal = cc in
      let bad = subst (λ (f : Option Refusal). AuditSays c audits.journal.run limit (stored audits.opening) audits.journal.entries (audit_of f)) is audits.says in
      spoiled c audits.journal.run limit audits.journal.entries r.entry r.rule bad
      (subst (λ (j : JournalContents). IsLegal c j.run limit (reverse j.entries)) (sym same) legal.legal)

  -- with a link that is a session
  module _ (link : Option LinkBytes) (session : IfSome link (IsSessionIn c limit text)) where
    session_by : (o : Option LinkBytes) → IfSome o (IsSessionIn c limit text) → (report : Report) (audits : Audits c limit text link report)
        → IsSessionOr (givens_in c limit audits.journal audits.opening) audits.journal.entries o
    session_by None is report audits = tt
    session_by (Some it) is report audits = is audits.journal audits.opening audits.reads audits.rows

    found_well : (s : Status) (report : Report) → Audits c limit text link report → TellsAudit report s h k → IsWell s
    found_well Ok report audits tells = tt
    found_well WriteFault report audits tells = tt
    found_well WantMemory report audits tells = tt
    found_well (Illegal entry line due) report audits tells = absurd (never_bad _ link report audits report.refusal refl tells.0)
    found_well (NoMatch conn) report audits tells =
        absurd (never_unmatched (givens_in c limit audits.journal audits.opening) audits.journal.entries conn report.refusal link report.matched
        tells.0.0 audits.matches (session_by link session report audits) tells.0.1)
    found_well _ report audits tells = absurd tells.0

  -- where the files hold it
  module _ (old new : Option Contents) where
    session_of : (wanted : Option LinkNames) (link : Option LinkBytes) → HoldSession old wanted c limit text → TakesLink wanted link old new
        → IfSome link (IsSessionIn c limit text)
    session_of None None holds taken = tt
    session_of None (Some link) holds taken = absurd taken
    session_of (Some wanted) None holds taken = absurd taken
    session_of (Some wanted) (Some link) holds taken =
        let output = such_held wanted.input link_limit (HoldOutput old wanted c limit text) old new link.input holds taken.input.held in
        let is = such_held wanted.output link_limit
        (λ (out : List ℕ). IsSessionIn c limit text (record { conn = wanted.conn; input = link.input; output = out })) old new link.output output
        taken.output.held in
        subst (λ (conn : ℕ). IsSessionIn c limit text (record { conn = conn; input = link.input; output = link.output })) (sym taken.conn) is

    unlinked_by : (wanted : LinkNames) (s : Status) → HoldSession old (Some wanted) c limit text → LinkRefused wanted s old new → IsWell s
    unlinked_by wanted s holds (no_input refused) =
        untaken_well s (unrefused_file wanted.input link_limit (HoldOutput old wanted c limit text) s old new holds refused)
    unlinked_by wanted s holds (no_output input held refused) =
        let output = such_held wanted.input link_limit (HoldOutput old wanted c limit text) old new input holds held.held in
        untaken_well s (unrefused_file wanted.output link_limit
        (λ (out : List ℕ). IsSessionIn c limit text (record { conn = wanted.conn; input = input; output = out })) s old new output refused)

    unlinked_well : (wanted : Option LinkNames) (s : Status) → HoldSession old wanted c limit text → RefusesLink wanted s old new → IsWell s
    unlinked_well None s holds refused = absurd refused
    unlinked_well (Some wanted) s holds refused = unlinked_by wanted s holds refused

    journal_well : (wanted : Option LinkNames) (s : Status) → HoldSession old wanted c limit text → AuditsJournal c limit text wanted s old new h k → IsWell s
    journal_well wanted WantMemory holds audits = tt
    journal_well wanted FileFault holds audits = tt
    journal_well wanted NoFile holds audits = unlinked_well wanted NoFile holds audits.0.refused
    journal_well wanted FileTooLong holds audits = unlinked_well wanted FileTooLong holds audits.0.refused
    journal_well wanted (JournalRefused line) holds audits = absurd (let e : OkResult legal.journal ≡ Err line = sym legal.reads ∙ audits.0 in cc)
    journal_well wanted s holds audits =
        found_well audits.link (session_of wanted audits.link holds audits.takes_link) s audits.audits.report audits.audits.audits audits.audits.tells

module _ (a : Audit) (old new : Option Contents) (h k : Option (List ℕ)) (fits : FitsAudit a old) where
  untaken_audit : (s : Status) → NotExplained a.config a.journal s old new → IsWell s
  untaken_audit s (no_audit_config taken) = untaken_well s (config_untaken a.config s old new fits.config taken)
  untaken_audit s (no_journal it) =
      untaken_well s (unrefused_file a.journal journal_limit (IsAuditable a old it.config) s old new
      (fits.legal it.config (hold_this a.config config_limit IsAccepted _ old new fits.config it.takes_config)) it.refused)

  taken_audit : (s : Status) → AuditsTaken a s old new h k → IsWell s
  taken_audit s audits =
      let this = hold_this a.config config_limit IsAccepted _ old new fits.config audits.takes_config in
      let such = such_held a.journal journal_limit (IsAuditable a old audits.config) old new audits.text (fits.legal audits.config this) audits.holds_journal.held in
      journal_well audits.config a.limit audits.text such.0 h k old new a.link s such.1 audits.audits

  unaudited_well : (s : Status) → NotAudited a s old new h k → IsWell s
  unaudited_well s (not_taken refused held) = untaken_audit s refused
  unaudited_well s (no_link audits) = taken_audit s audits

  audit_well : (s : Status) → AuditsFiles a s old new h k → IsWell s
  audit_well FileFault audits = tt
  audit_well WantMemory audits = tt
  audit_well (ConfigRefused fault) audits =
      untaken_well (ConfigRefused fault) (config_untaken a.config (ConfigRefused fault) old new fits.config audits.0)
  audit_well NoFile audits = unaudited_well NoFile audits
  audit_well FileTooLong audits = unaudited_well FileTooLong audits
  audit_well s audits = taken_audit s audits

-- `explain`
module _ (c : Config) (limit : ℕ) (which : Selection) (text : List ℕ) (legal : IsLegalJournal c limit text) (h k : Option (List ℕ)) where
  never_illegal : (P : Refusal → Type 0) (x : Explanation) → Explains c limit which text x → (found : Option Refusal) → x.refusal ≡ found
      → IsSomeAnd found P → ⊥
  never_illegal P x explains None is some = some
  never_illegal P x explains (Some r) is some =
      let read : OkResult explains.journal ≡ OkResult legal.journal = sym explains.reads ∙ legal.reads in
      let same : explains.journal ≡ legal.journal = cc in
      let bad : IsRefused c explains.journal.run limit explains.journal.entries r =
      subst (λ (f : Option Refusal). TellsWhereLegal c explains.journal.run limit (stored explains.opening) explains.journal.entries f x.watch) is
      explains.tells in
      spoiled c explains.journal.run limit explains.journal.entries r.entry r.rule bad.first
      (subst (λ (j : JournalContents). IsLegal c j.run limit (reverse j.entries)) (sym same) legal.legal)

  told_well : (s : Status) (x : Explanation) → Explains c limit which text x → TellsCallOf x s h k → IsWell s
  told_well Ok x explains tells = tt
  told_well WriteFault x explains tells = tt
  told_well WantMemory x explains tells = tt
  told_well (Illegal entry line due) x explains tells = absurd (never_illegal _ x explains x.refusal refl tells.0)
  told_well _ x explains tells = absurd tells.0

  call_well : (s : Status) → ExplainsJournal c limit which text s h k → IsWell s
  call_well WantMemory explains = tt
  call_well (JournalRefused line) explains = absurd (let e : OkResult legal.journal ≡ Err line = sym legal.reads ∙ explains.0 in cc)
  call_well s explains = told_well s explains.found explains.explains explains.tells

module _ (e : Explain) (old new : Option Contents) (h k : Option (List ℕ)) (fits : FitsExplain e old) where
  unexplained_well : (s : Status) → NotExplained e.config e.journal s old new → IsWell s
  unexplained_well s (no_audit_config taken) = untaken_well s (config_untaken e.config s old new fits.config taken)
  unexplained_well s (no_journal it) =
      untaken_well s (unrefused_file e.journal journal_limit (IsLegalJournal it.config e.limit) s old new
      (fits.legal it.config (hold_this e.config config_limit IsAccepted _ old new fits.config it.takes_config)) it.refused)

  explain_well : (s : Status) → ExplainsFiles e.config e.journal e.limit (sought e.calls) s old new h k → IsWell s
  explain_well FileFault explains = tt
  explain_well WantMemory explains = tt
  explain_well (ConfigRefused fault) explains =
      untaken_well (ConfigRefused fault) (config_untaken e.config (ConfigRefused fault) old new fits.config explains.0)
  explain_well NoFile explains = unexplained_well NoFile explains.0
  explain_well FileTooLong explains = unexplained_well FileTooLong explains.0
  explain_well s explains =
      let this = hold_this e.config config_limit IsAccepted _ old new fits.config explains.takes_config in
      let legal = such_held e.journal journal_limit (IsLegalJournal explains.config e.limit) old new explains.text
      (fits.legal explains.config this) explains.holds_journal.held in
      call_well explains.config e.limit (sought e.calls) explains.text legal h k s explains.explains

-- the commands of a text
text_well : (s : Status) → s ≡ WantMemory → IsWell s
text_well s is = subst IsWell (sym is) tt

show_well : (text : List ℕ) (s : Status) (h k : Option (List ℕ)) → IsReference text → Tells s text h k → IsWell s
show_well text Ok h k is tells = tt
show_well text WriteFault h k is tells = tt
show_well text WantMemory h k is tells = tt
show_well text (TextRefused fault) h k is tells = text_well (TextRefused fault) (unrefused text is.0 (TextRefused fault) is.1 tells.0)
show_well text (LocRefused fault) h k is tells = text_well (LocRefused fault) (unrefused text is.0 (LocRefused fault) is.1 tells.0)
show_well text _ h k is tells = absurd tells

loc_well : (text : List ℕ) (s : Status) (h k : Option (List ℕ)) → IsLocatable text → Locates s text h k → IsWell s
loc_well text Ok h k is locates = tt
loc_well text WriteFault h k is locates = tt
loc_well text WantMemory h k is locates = tt
loc_well text NoLoc h k is locates = never_lacking text is.line is.ior is.reads is.is_line locates.0
loc_well text (TextRefused fault) h k is locates =
    text_well (TextRefused fault) (written_unrefused text is.ior (TextRefused fault) is.reads locates.0)
loc_well text _ h k is locates = absurd locates

-- those of a configuration
module _ (asked : Asked) (name : List ℕ) (old new : Option Contents) (h k : Option (List ℕ)) (holds : HoldConfig old name) where
  printed_well : (content : List ℕ) (s : Status) → IsHeld name config_limit content old new → Printed asked content s h k → IsWell s
  printed_well content Ok held printed = tt
  printed_well content WriteFault held printed = tt
  printed_well content WantMemory held printed = tt
  printed_well content (ConfigRefused fault) held printed =
      reads_accepted content (such_held name config_limit IsAccepted old new content holds held.held) (Err (ConfigRefused fault))
      (elim printed.0 [ inl memory ↦ absurd (printed.1 memory) | inr read ↦ (read, printed.1) ])
  printed_well content _ held printed = absurd printed

  file_well : (s : Status) → Filed asked name s old new h k → IsWell s
  file_well NoFile filed = untaken_well NoFile (unrefused_file name config_limit IsAccepted NoFile old new holds filed.0)
  file_well FileTooLong filed = untaken_well FileTooLong (unrefused_file name config_limit IsAccepted FileTooLong old new holds filed.0)
  file_well FileFault filed = tt
  file_well WantMemory filed = tt
  file_well s filed = printed_well filed.content s filed.held filed.printed

moved_well : (c : Config) (text : List ℕ) (s : Status) (h k : Option (List ℕ)) → IsReference text → MigratesText c s text h k → IsWell s
moved_well c text Ok h k is moves = tt
moved_well c text WriteFault h k is moves = tt
moved_well c text WantMemory h k is moves = tt
moved_well c text (TextRefused fault) h k is moves = text_well (TextRefused fault) (unrefused text is.0 (TextRefused fault) is.1 moves.0)
moved_well c text (LocRefused fault) h k is moves = text_well (LocRefused fault) (unrefused text is.0 (LocRefused fault) is.1 moves.0)
moved_well c text _ h k is moves = absurd moves

migrate_well : (name text : List ℕ) (s : Status) (old new : Option Contents) (h k : Option (List ℕ)) → HoldConfig old name → IsReference text
    → MigratesFile name text s old new h k → IsWell s
migrate_well name text s old new h k holds is (inl untaken) = untaken_well s (config_untaken name s old new holds untaken.0)
migrate_well name text s old new h k holds is (inr by) = moved_well by.config text s h k is by.migrates

-- `names`
names_status_well : (e : NamesEnd) → IsWellNaming e → IsWell (status_of e)
names_status_well names_end.Ended well = tt
names_status_well names_end.WantMemory well = tt
names_status_well names_end.ReadFault well = tt
names_status_well names_end.WriteFault well = tt
names_status_well _ well = absurd well

names_end_well : (s : Status) (left_old left_new h k : Option (List ℕ)) → IsSomeAnd left_old IsWholeNaming → RunsNames s left_old left_new h k → IsWell s
names_end_well s left_old left_new h k whole runs =
    subst IsWell (sym runs.1) (names_status_well runs.0 (names_well runs.0 left_old left_new h k whole runs.2))

-- each command
does_well : {S F : Type 0} (m : Meant) (s : Status) (old new : Option Contents) (left_old left_new h k : Option (List ℕ)) (source_old source_new : S)
    (files_old files_new : F) → Fits m old left_old → Does m s old new left_old left_new h k source_old source_new files_old files_new → IsWell s
does_well (answer name) s old new left_old left_new h k a b c d fits does = answer_well name s old new left_old left_new h k fits does
does_well (replay file script) s old new left_old left_new h k a b c d fits does = play_well file script old new h k fits s does.0
does_well (load n start) s old new left_old left_new h k a b c d fits does = load_well n start s h k does.0
does_well (show text) s old new left_old left_new h k a b c d fits does = show_well text s h k fits does.0
does_well (loc text) s old new left_old left_new h k a b c d fits does = loc_well text s h k fits does.0
does_well (check name) s old new left_old left_new h k a b c d fits does = file_well Counts name old new h k fits s does.0
does_well (iors name) s old new left_old left_new h k a b c d fits does = file_well References name old new h k fits s does.0
does_well (migrate name text) s old new left_old left_new h k a b c d fits does = migrate_well name text s old new h k fits.0 fits.1 does.0
does_well (audit asked) s old new left_old left_new h k a b c d fits does = audit_well asked old new h k fits s does.0
does_well (explain asked) s old new left_old left_new h k a b c d fits does = explain_well asked old new h k fits s does.0
does_well names s old new left_old left_new h k a b c d fits does = names_end_well s left_old left_new h k fits does.0

-- no fault was counted
calm_well : (s : Status) → IsWell s → (s ≡ ReadFault → ⊥) → (s ≡ WriteFault → ⊥) → (s ≡ FileFault → ⊥) → (s ≡ Ok) ⊎ (s ≡ WantMemory)
calm_well Ok well read write file = inl refl
calm_well WantMemory well read write file = inr refl
calm_well ReadFault well read write file = absurd (read refl)
calm_well WriteFault well read write file = absurd (write refl)
calm_well FileFault well read write file = absurd (file refl)
calm_well _ well read write file = absurd well

pub completes : {S F : Type 0} (m : Meant) (s : Status) (old new : Option Contents) (left_old left_new h k : Option (List ℕ)) (source_old source_new : S)
    (files_old files_new : F) (reads_old reads_new writes_old writes_new takes_old takes_new : ℕ)
    → Does m s old new left_old left_new h k source_old source_new files_old files_new → HasCause reads_old reads_new (s ≡ ReadFault)
    → HasCause writes_old writes_new (s ≡ WriteFault) → HasCause takes_old takes_new (s ≡ FileFault)
    → IsCalm reads_old reads_new writes_old writes_new takes_old takes_new → Fits m old left_old → (s ≡ Ok) ⊎ (s ≡ WantMemory)
completes m s old new left_old left_new h k a b c d ro rn wo wn fo fn does read write file calm fits =
    calm_well s (does_well m s old new left_old left_new h k a b c d fits does) (λ is. calm.reads (read.rose is))
    (λ is. calm.writes (write.rose is)) (λ is. calm.takes (file.rose is))
