-- What is printed of the store and of the journal.
use Rattle.std.specs.Prelude.{◌≡◌, ℕ, List, reverse}
use Rattle.poa_base.specs.Store.{Slots}
use Rattle.poa_journal.specs.Journal.{journal_text, store_text}
use Rattle.poa_history.specs.Life.{Life}
use Rattle.poa_core.specs.Stored.{Stores}

pub record IsStoreText (life : Life) (text : List ℕ) : Type 0 where
  pub slots : Slots
  pub stores : Stores life slots
  pub told : text ≡ store_text slots

-- the text of the journal
abbrev pub history_text : Life → List ℕ
history_text life = journal_text (record { run = life.run; opening = life.opening; entries = reverse life.history })
