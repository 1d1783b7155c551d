-- Which steps may need memory.
use Rattle.std.specs.Prelude.{Bool, true, false}
use Rattle.history_standing.specs.declared.stage.Stage.{Stage}
use Rattle.history_standing.specs.declared.stage.Stage.TheVariants.{Incarnating}

-- a servant activator is asked, whose answer may be an endpoint or a servant's name
abbrev pub needs_memory : Stage → Bool
needs_memory (Incarnating r n) = true
needs_memory stage = false
