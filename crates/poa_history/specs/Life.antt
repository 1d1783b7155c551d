-- A run of the adapter: what it was given, and what has happened since.
use Rattle.std.specs.Prelude.{ℕ, List, [], ◌∷◌}
use Rattle.poa_base.specs.declared.Config.{Config}
use Rattle.poa_base.specs.declared.Entry.{Entry}
use Rattle.poa_base.specs.Store.{Slots, stored as stored_in}
use Rattle.poa_history.specs.States.{Stored}
use Rattle.poa_history.specs.declared.givens.Givens.{Givens}

pub record Life : Type 0 where
  pub config : Config
  -- the number of the run
  pub run : ℕ
  -- how many arrivals it takes
  pub limit : ℕ
  -- what was stored when it began
  pub opening : Slots
  -- the newest entry first
  pub history : List Entry

-- a run that hasn't begun
abbrev pub begun : Config → ℕ → ℕ → Slots → Life
begun c run limit opening = record { config = c; run = run; limit = limit; opening = opening; history = [] }

abbrev pub with_entry : Entry → Life → Life
with_entry e life = record life { history = e ∷ life.history }

-- what was stored for an id of a path when the run began
abbrev pub opened : Life → Stored
opened life = stored_in life.opening

-- what the run was given, and the run with this history
abbrev pub givens_of : Life → Givens
givens_of life = record { config = life.config; run = life.run; limit = life.limit; opening = life.opening }

abbrev pub life_at : Givens → List Entry → Life
life_at g h = record { config = g.config; run = g.run; limit = g.limit; opening = g.opening; history = h }
