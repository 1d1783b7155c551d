-- A run of the server that opens with what an earlier one put.
use Rattle.std.specs.Prelude.{◌≡◌, ℕ, List}
use Rattle.poa_base.specs.Store.{Slots}
use Rattle.poa_core.specs.Stored.{Stores}
use Rattle.poa_history.specs.Life.{Life, opened}
use Rattle.poa_history.specs.States.{stored}
use Rattle.poa_journal.specs.Journal.{IsStore}

-- the paths, ids and states that a run stores are such as can be written
abbrev pub CanBeWritten : Life → Type 0
CanBeWritten life = (slots : Slots) → Stores life slots → IsStore slots

-- a run opens with what another one stored
abbrev pub OpensAfter : Life → Life → Type 0
OpensAfter first second = (path : List (List ℕ)) (oid : List ℕ)
    → opened second path oid ≡ stored first.config first.run (opened first) first.history path oid
