-- What is stored.
use Rattle.std.specs.Prelude.{◌≡◌, ℕ, List}
use Rattle.poa_base.specs.Store.{Slots, stored as stored_in}
use Rattle.poa_history.specs.Life.{Life, opened}
use Rattle.poa_history.specs.States.{stored}

-- a store of what is stored
abbrev pub Stores : Life → Slots → Type 0
Stores life slots = (path : List (List ℕ)) (oid : List ℕ)
    → stored_in slots path oid ≡ stored life.config life.run (opened life) life.history path oid
