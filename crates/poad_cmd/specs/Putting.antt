-- The store and the journal of a run, in files.
use Rattle.std.specs.Prelude.{◌≡◌, ℕ, List, reverse, Option, Some, None, IfSome, Result, Ok, Err}
use Rattle.std.specs.declared.alloc.AllocError.{AllocError}
use Rattle.command_words.specs.Serving.{Serve}
use Rattle.outside.specs.Keeping.{Contents, Stores}
use Rattle.outside.specs.Told.{IfTold}
use Rattle.outside.specs.declared.keeping.Put.{Put}
use Rattle.outside.specs.declared.keeping.Put.TheVariants.{Done, Failed}
use Rattle.poa_history.specs.Life.{Life}
use Rattle.poa_journal.specs.Journal.{journal_text}
use Rattle.replay_run.specs.Showing.{IsStoreText}

-- the text of the journal of a run
abbrev pub journal_of : Life → List ℕ
journal_of life = journal_text (record { run = life.run; opening = life.opening; entries = reverse life.history })

-- the text of what is stored is put under the name, if there is one; without memory for it nothing is put
abbrev pub PutsState : Option (List ℕ) → Life → Result Put AllocError → Option Contents → Option Contents → Type 0
PutsState None life result old new = (result ≡ Ok Done) × (new ≡ old)
PutsState (Some name) life (Ok put) old new = (text : List ℕ) × IsStoreText life text × IfTold old new (Stores put name text)
PutsState (Some name) life (Err fault) old new = new ≡ old

-- the journal is put under the name, if there is one; without memory for its text nothing is put
abbrev pub PutsJournal : Option (List ℕ) → Life → Result Put AllocError → Option Contents → Option Contents → Type 0
PutsJournal None life result old new = (result ≡ Ok Done) × (new ≡ old)
PutsJournal (Some name) life (Ok put) old new = IfTold old new (Stores put name (journal_of life))
PutsJournal (Some name) life (Err fault) old new = new ≡ old

-- what came of two puts: want of memory, or else a fault, where one of them met it
abbrev pub both : Result Put AllocError → Result Put AllocError → Result Put AllocError
both (Err fault) second = Err fault
both (Ok first) (Err fault) = Err fault
both (Ok Done) (Ok second) = Ok second
both (Ok Failed) (Ok second) = Ok Failed

-- the store is put and then the journal, whatever came of the first put
pub record PutsFiles (serve : Serve) (life : Life) (result : Result Put AllocError) (old new : Option Contents) : Type 0 where
  pub state : Result Put AllocError
  pub journal : Result Put AllocError
  pub between : Option Contents
  pub puts_state : PutsState serve.state life state old between
  pub puts_journal : PutsJournal serve.journal life journal between new
  pub is : result ≡ both state journal

-- the files hold the text of what is stored under the name, if there is one
abbrev pub HoldsState : Option (List ℕ) → Life → Contents → Type 0
HoldsState name life now = IfSome name (λ n. (text : List ℕ) × IsStoreText life text × (now n ≡ Some text))

-- and that of the journal
abbrev pub HoldsJournal : Option (List ℕ) → Life → Contents → Type 0
HoldsJournal name life now = IfSome name (λ n. now n ≡ Some (journal_of life))

-- the files hold both under the names that are asked for
pub record Keeps (serve : Serve) (life : Life) (before now : Contents) : Type 0 where
  pub state : HoldsState serve.state life now
  pub journal : HoldsJournal serve.journal life now
