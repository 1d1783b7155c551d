-- The run in which a script is played.
use Rattle.std.specs.Prelude.{ℕ}
use Rattle.std.specs.FinMap as finite
use Rattle.poa_base.specs.declared.Config.{Config}
use Rattle.poa_history.specs.Life.{Life, begun}

-- a run of the configuration's number, with nothing stored, that takes so many arrivals
abbrev pub life_at_first : Config → ℕ → Life
life_at_first c limit = begun c c.run limit finite.empty
