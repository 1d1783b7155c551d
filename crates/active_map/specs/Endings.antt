-- Whom a command ends, and how.
use Rattle.std.specs.Prelude.{Bool, true, ◌&&◌, ◌==◌, if◌then◌else◌}
use Rattle.history_standing.specs.declared.activation.Activation.{Activation}
use Rattle.history_standing.specs.Standings.{is_of}
use Rattle.history_standing.specs.Templates.{has_activator, manager_at}
use Rattle.history_standing.specs.Changes.{ended_by_destroy}
use Rattle.history_standing.specs.Nodes.{stands_under}
use Rattle.active_map.specs.declared.ending.Ending.{Ending}
use Rattle.active_map.specs.declared.ending.Ending.TheVariants.{Below, Managed, Id}

-- the activation is one of those that the command ends
abbrev pub takes : Ending → Activation → Bool
takes (Below nodes path etherealize) a = stands_under nodes.now path.now a.adapter
takes (Managed c manager) a = has_activator c.now a.path && (manager_at c.now a.path == manager)
takes (Id k oid) a = is_of k oid.now a

-- so it is ending
abbrev pub marked : Ending → Activation → Activation
marked (Below nodes path etherealize) a = ended_by_destroy etherealize a
marked (Managed c manager) a = ended_by_destroy true a
marked (Id k oid) a = record a { ending = true }

abbrev pub ended : Ending → Activation → Activation
ended e a = if takes e a then marked e a else a
