-- What it takes for a command, and for a run of the server, to end well: nothing outside fails, what is read is accepted, and
-- no limit is met.
use Rattle.std.specs.Prelude.{◌≡◌, ◌⊎◌, ℕ, ◌+◌, ◌^◌, ◌<◌, ◌≤◌, List, [], ◌∷◌, length, reverse, Option, None, Some, IfSome, Ok, ⊤}
use Rattle.std.specs.Option.{IsSomeAnd}
use Rattle.command_words.specs.Auditing.{Audit, LinkNames}
use Rattle.command_words.specs.Explaining.{Explain}
use Rattle.command_words.specs.Serving.{Serve}
use Rattle.command_words.specs.Words.{Meant, answer, audit, explain, load, names, show, check, iors, migrate, loc, replay}
use Rattle.history_standing.specs.Arrivals.{connections}
use Rattle.outside.specs.Cause.{Rose}
use Rattle.outside.specs.Keeping.{Contents}
use Rattle.poa_base.specs.declared.Config.{Config}
use Rattle.poa_base.specs.declared.Ior.{Ior}
use Rattle.poa_base.specs.declared.limits.TheConstants.{CALLS}
use Rattle.poa_base.specs.Store.{Slots, states}
use Rattle.poa_core.specs.Answers.{unadmitted}
use Rattle.poa_history.specs.Legal.{IsLegal}
use Rattle.poa_history.specs.Life.{Life}
use Rattle.poa_history.specs.Limits.{filled_at}
use Rattle.poa_journal.specs.Whole.{Contents as JournalContents, contents_of}
use Rattle.poad_answer.specs.Run.{life_at_answer}
use Rattle.poad_answer.specs.Calls.{Serves}
use Rattle.poad_answer.specs.Serving.{GivesCall}
use Rattle.poad_answer.specs.declared.configured.TheConstants.{BUILT_IN}
use Rattle.journal_audit.specs.Matching.{LinkBytes, IsSession}
use Rattle.journal_audit.specs.Texts.{givens_in}
use Rattle.poad_audit.specs.Auditing.{journal_limit, link_limit}
use Rattle.poad_answer.specs.Whole.{HearsWhole, IsWholeInput as IsWholeNaming}
use Rattle.poad_files.specs.Locating.{IsLocLine}
use Rattle.poad_files.specs.Referring.{GivesWritten, Refers}
use Rattle.poad_files.specs.StateFile.{ReadsState, state_limit}
use Rattle.poad_files.specs.Taking.{IsAccepted, ReadsConfig, ReadsScript, config_limit, script_limit}
use Rattle.replay_run.specs.Playing.{IsPlayed}
use Rattle.replay_run.specs.declared.Played.{Played}
use Rattle.replay_script.specs.declared.Script.{Script}
use Rattle.serve_run.specs.declared.doors.Doors.{Doors}
use Rattle.session_laws.specs.Hearing.{Heard}

-- no count of faults of reading, of writing and of taking files rises, nor stands at the end of its type
pub record IsCalm (reads_old reads_new writes_old writes_new takes_old takes_new : ℕ) : Type 0 where
  pub reads : Rose reads_old reads_new → ⊥
  pub writes : Rose writes_old writes_new → ⊥
  pub takes : Rose takes_old takes_new → ⊥

-- the files tell that they hold such a content under the name, and it isn't too long
abbrev pub HoldSuch : Option Contents → List ℕ → ℕ → (List ℕ → Type 0) → Type 0
HoldSuch files name limit IsSuch =
    IsSomeAnd files (λ held. IsSomeAnd (held name) (λ content. (length content ≤ limit) × IsSuch content))

-- they hold a configuration, and this one
abbrev pub HoldConfig : Option Contents → List ℕ → Type 0
HoldConfig files name = HoldSuch files name config_limit IsAccepted

abbrev pub HoldThisConfig : Option Contents → List ℕ → Config → Type 0
HoldThisConfig files name c = HoldSuch files name config_limit (λ content. ReadsConfig content (Ok c))

-- they hold a script, and this one
abbrev pub IsScript : List ℕ → Type 0
IsScript content = (script : Script) × ReadsScript content (Ok script)

abbrev pub HoldScript : Option Contents → List ℕ → Type 0
HoldScript files name = HoldSuch files name script_limit IsScript

abbrev pub HoldThisScript : Option Contents → List ℕ → Script → Type 0
HoldThisScript files name script = HoldSuch files name script_limit (λ content. ReadsScript content (Ok script))

-- there is a configuration for `answer`: the one in the file, or the built-in one
abbrev pub IsConfigured : Option (List ℕ) → Option Contents → Type 0
IsConfigured None files = ⊤
IsConfigured (Some name) files = HoldConfig files name

-- and it is this one
abbrev pub Configures : Option (List ℕ) → Option Contents → Config → Type 0
Configures None files c = ReadsConfig BUILT_IN.now (Ok c)
Configures (Some name) files c = HoldThisConfig files name c

-- the bytes of calls
abbrev pub bytes_in : List Heard → ℕ
bytes_in [] = 0
bytes_in (heard ∷ more) = heard.size + bytes_in more

-- an input of whole messages that are calls and CancelRequests, to its end or to a CloseConnection, within the limits of a
-- run and of one input; served by the configuration, all its calls are admitted
pub record IsWholeInput (c : Config) (text : List ℕ) : Type 0 where
  pub calls : List Heard
  pub whole : HearsWhole text calls
  pub short : length text < 2 ^ 32
  pub few : length calls ≤ 4000000
  pub small : bytes_in calls ≤ 2 ^ 30
  pub admitted : (replies : List ℕ) (life : Life) → Serves GivesCall (life_at_answer c) calls replies life → unadmitted life.history ≡ 0

-- a script that, played on the configuration, meets no limit and leaves no call unadmitted
abbrev pub IsWholeScript : Config → Script → Type 0
IsWholeScript c script = (played : Played) → IsPlayed c CALLS script played → (played.full ≡ None) × (played.held ≡ 0)

-- the configuration of `answer` is accepted, and by it the source is told and holds a whole input
pub record FitsAnswer (name : Option (List ℕ)) (files : Option Contents) (left : Option (List ℕ)) : Type 0 where
  pub configured : IsConfigured name files
  pub whole : (c : Config) → Configures name files c → IsSomeAnd left (IsWholeInput c)

-- configuration and script of `replay` are accepted, and whole is the script by it
pub record FitsReplay (file script : List ℕ) (files : Option Contents) : Type 0 where
  pub config : HoldConfig files file
  pub lines : HoldScript files script
  pub whole : (c : Config) (steps : Script) → HoldThisConfig files file c → HoldThisScript files script steps
      → IsWholeScript c steps

-- the text is a journal, whose entries are a legal history of a run of the configuration that takes so many calls
pub record IsLegalJournal (c : Config) (limit : ℕ) (text : List ℕ) : Type 0 where
  pub journal : JournalContents
  pub reads : contents_of text ≡ Ok journal
  pub legal : IsLegal c journal.run limit (reverse journal.entries)

-- the bytes of a link are a session of its connection that ended well, by the journal of the text
abbrev pub IsSessionIn : Config → ℕ → List ℕ → LinkBytes → Type 0
IsSessionIn c limit text link = (journal : JournalContents) (opening : Slots) → contents_of text ≡ Ok journal → states opening ≡ journal.rows
    → IsSession (givens_in c limit journal opening) journal.entries link

-- the files hold what was written to the peer of which this was read, and that is such a session
abbrev pub HoldOutput : Option Contents → LinkNames → Config → ℕ → List ℕ → List ℕ → Type 0
HoldOutput files wanted c limit text input =
    HoldSuch files wanted.output link_limit (λ output. IsSessionIn c limit text (record { conn = wanted.conn; input = input; output = output }))

-- they hold the bytes of the link that is asked for
abbrev pub HoldSession : Option Contents → Option LinkNames → Config → ℕ → List ℕ → Type 0
HoldSession files None c limit text = ⊤
HoldSession files (Some wanted) c limit text = HoldSuch files wanted.input link_limit (HoldOutput files wanted c limit text)

-- the text is a legal journal, and the bytes of the link that is asked for are such a session
abbrev pub IsAuditable : Audit → Option Contents → Config → List ℕ → Type 0
IsAuditable a files c text = IsLegalJournal c a.limit text × HoldSession files a.link c a.limit text

-- the configuration of `audit` is accepted, and by it the journal and the link
pub record FitsAudit (a : Audit) (files : Option Contents) : Type 0 where
  pub config : HoldConfig files a.config
  pub legal : (c : Config) → HoldThisConfig files a.config c → HoldSuch files a.journal journal_limit (IsAuditable a files c)

-- the same of `explain`
pub record FitsExplain (e : Explain) (files : Option Contents) : Type 0 where
  pub config : HoldConfig files e.config
  pub legal : (c : Config) → HoldThisConfig files e.config c → HoldSuch files e.journal journal_limit (IsLegalJournal c e.limit)

-- the text refers
abbrev pub IsReference : List ℕ → Type 0
IsReference text = (ior : Ior) × Refers text ior

-- the text is a written reference that has a corbaloc text
pub record IsLocatable (text : List ℕ) : Type 0 where
  pub ior : Ior
  pub reads : GivesWritten text (Ok ior)
  pub line : List ℕ
  pub is_line : IsLocLine ior line

-- what a command works on is accepted, and within its limits
abbrev pub Fits : Meant → Option Contents → Option (List ℕ) → Type 0
Fits (answer name) files left = FitsAnswer name files left
Fits (replay file script) files left = FitsReplay file script files
Fits (load n start) files left = ⊤
Fits (show text) files left = IsReference text
Fits (loc text) files left = IsLocatable text
Fits (check name) files left = HoldConfig files name
Fits (iors name) files left = HoldConfig files name
Fits (migrate name text) files left = HoldConfig files name × IsReference text
Fits (audit a) files left = FitsAudit a files
Fits (explain e) files left = FitsExplain e files
Fits names files left = IsSomeAnd left IsWholeNaming

-- no count of faults of taking and putting files and of starting threads rises, nor stands at the end of its type
pub record IsSteady (takes_old takes_new puts_old puts_new crew_old crew_new : ℕ) : Type 0 where
  pub takes : Rose takes_old takes_new → ⊥
  pub puts : Rose puts_old puts_new → ⊥
  pub crew : Rose crew_old crew_new → ⊥

module _ {A : Type 0} (faults : A → ℕ) where
  -- the same of doors, one by one
  abbrev pub NoneRose : List A → List A → Type 0
  NoneRose [] [] = ⊤
  NoneRose (old ∷ olds) (new ∷ news) = (Rose (faults old) (faults new) → ⊥) × NoneRose olds news
  NoneRose olds news = ⊥

  -- and of the doors of a run
  pub record AreCalm (old new : Doors A) : Type 0 where
    pub admin : Rose (faults old.admin) (faults new.admin) → ⊥
    pub lanes : NoneRose old.lanes.items new.lanes.items

-- the text is one of a store
abbrev pub IsState : List ℕ → Type 0
IsState content = (slots : Slots) × ReadsState content (Ok slots)

-- the files tell that they hold a store under the name, which isn't too long, or nothing
abbrev pub MayOpen : Option (List ℕ) → Option Contents → Type 0
MayOpen None files = ⊤
MayOpen (Some name) files =
    IsSomeAnd files (λ held. IfSome (held name) (λ content. (length content ≤ state_limit) × IsState content))

-- a run can begin by the words: the configuration is accepted, and the state file absent or accepted
pub record CanBegin (serve : Serve) (files : Option Contents) : Type 0 where
  pub config : HoldConfig files serve.file
  pub state : MayOpen serve.state files

-- a run that took each call, and each connection
pub record IsRoomy (life : Life) : Type 0 where
  pub unfilled : filled_at life.history ≡ None
  pub few : connections life.history < 4000000
