-- What a run of the server is made of, by its words and the files.
use Rattle.std.specs.Prelude.{◌≡◌, ◌≤◌, ◌⊎◌, ℕ, List, Option, Some, None, Result, Ok, Err, ⊤}
use Rattle.command_words.specs.Serving.{AreApart, Serve, seen_serve}
use Rattle.command_words.specs.declared.server.ServeWords.{ServeWords}
use Rattle.outside.specs.Keeping.{Contents}
use Rattle.std.specs.FinMap.{empty}
use Rattle.poa_base.specs.declared.Config.{Config}
use Rattle.poa_base.specs.Store.{Slots}
use Rattle.poa_history.specs.Life.{Life, begun}
use Rattle.poad_files.specs.StateFile.{TakesState}
use Rattle.poad_files.specs.Taking.{TakesConfig}
use Rattle.poad_files.specs.declared.status.Status.{Status}
use Rattle.poad_files.specs.declared.status.Status.TheVariants.{BadWords, WantMemory}
use Rattle.poad_cmd.specs.declared.beginning.Beginning.{Beginning}

-- what the words ask for, or why they ask for no run
abbrev pub IsAsked : Option Serve → Result ServeWords Status → Type 0
IsAsked asked (Ok words) = asked ≡ Some (seen_serve words)
IsAsked asked (Err BadWords) = asked ≡ None
IsAsked asked (Err WantMemory) = ⊤
IsAsked asked (Err status) = ⊥

-- as many lanes and workers as a run has seats for, no more calls than it may take, and a state and a journal of two names
pub record IsInRange (words : ServeWords) : Type 0 where
  pub lanes : words.lanes ≤ 64
  pub some_worker : 1 ≤ words.workers
  pub workers : words.workers ≤ 16
  pub some_call : 1 ≤ words.limit
  pub calls : words.limit ≤ 4000000
  pub apart : AreApart (seen_serve words).state (seen_serve words).journal

-- the store that a run opens with is the one in the file that is named, or the empty one
abbrev pub OpensWith : Option (List ℕ) → Result Slots Status → Option Contents → Option Contents → Type 0
OpensWith None (Ok slots) old new = slots ≡ empty
OpensWith None (Err status) old new = ⊥
OpensWith (Some name) result old new = TakesState name result old new

-- a run of the configuration in the file and of the store, with the number and the limit that are asked for, in which
-- nothing has happened
pub record IsBegun (serve : Serve) (life : Life) (old new : Option Contents) : Type 0 where
  pub config : Config
  pub slots : Slots
  pub taken : TakesConfig serve.file (Ok config) old new
  pub opens : OpensWith serve.state (Ok slots) old new
  pub is : life ≡ begun config serve.run serve.limit slots

-- the file has a configuration, and the state file no store
pub record HasNoState (serve : Serve) (status : Status) (old new : Option Contents) : Type 0 where
  pub config : Config
  pub taken : TakesConfig serve.file (Ok config) old new
  pub refused : OpensWith serve.state (Err status) old new

-- the file has no configuration, or the state file no store; or memory is wanting
abbrev pub IsUnbegun : Serve → Status → Option Contents → Option Contents → Type 0
IsUnbegun serve status old new = TakesConfig serve.file (Err status) old new ⊎ HasNoState serve status old new

-- no run can begin, for this reason: the words ask for none, a file isn't such as it has to be, or memory is wanting
abbrev pub IsRefused : Option Serve → Status → Option Contents → Option Contents → Type 0
IsRefused None BadWords old new = ⊤
IsRefused None WantMemory old new = ⊤
IsRefused None status old new = ⊥
IsRefused (Some serve) status old new = IsUnbegun serve status old new

-- the same of words that ask for a run
abbrev pub BeginsBy : ServeWords → Result Beginning Status → Option Contents → Option Contents → Type 0
BeginsBy words (Ok it) old new = (it.words ≡ words) × IsBegun (seen_serve words) it.core old new
BeginsBy words (Err status) old new = IsUnbegun (seen_serve words) status old new

abbrev pub Begins : Option Serve → Result Beginning Status → Option Contents → Option Contents → Type 0
Begins asked (Ok it) old new = (asked ≡ Some (seen_serve it.words)) × IsBegun (seen_serve it.words) it.core old new
Begins asked (Err status) old new = IsRefused asked status old new
