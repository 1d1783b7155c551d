-- The histories of a run with these givens. The words of histories have the newest entry first; a log is in the journal's order.
use Rattle.std.specs.Prelude.{List, reverse}
use Rattle.poa_base.specs.Store.{stored as stored_in}
use Rattle.poa_base.specs.declared.Entry.{Entry}
use Rattle.poa_history.specs.States.{Stored}
use Rattle.poa_history.specs.Runs.{IsRun}
use Rattle.poa_history.specs.declared.givens.Givens.{Givens}

-- what was stored when the run began
abbrev pub opened : Givens → Stored
opened g = stored_in g.opening

-- a legal history of the run
abbrev pub IsHistory : Givens → List Entry → Type 0
IsHistory g h = IsRun g.config g.run g.limit h

-- the same in the journal's order
abbrev pub IsLog : Givens → List Entry → Type 0
IsLog g log = IsHistory g (reverse log)
