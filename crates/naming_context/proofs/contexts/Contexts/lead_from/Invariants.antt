use Rattle.std.proofs.Common.{◌≡◌, length}
use Rattle.naming_context.specs.Kept.{standing_of}
use Rattle.naming_context.specs.Leading.{lead_from}
use Rattle.naming_context.proofs.contexts.Contexts.lead_from.Given as goal

-- what is left leads where the whole name does
abbrev pub invariant-loop-rest : goal.invariant-loop-rest
invariant-loop-rest l = lead_from (standing_of l.self) l.at l.rest ≡ lead_from (standing_of l.self) l.context l.name

abbrev pub decreases-loop-rest : goal.decreases-loop-rest
decreases-loop-rest l = length l.rest
