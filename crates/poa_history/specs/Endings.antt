-- Why an activation is ending, in plain words (CORBA 3.3 Part 1, section 15.3.9: deactivate_object, destroy; section 15.3.2: deactivate).
use Rattle.std.specs.Prelude.{ℕ, Bool, true, false, not, ◌&&◌, ◌||◌, ◌==◌, nat_lt, if◌then◌else◌, List, [], ◌∷◌, length, Option, Some, None}
use Rattle.poa_base.specs.declared.Config.{Config}
use Rattle.poa_base.specs.declared.Command.{Command}
use Rattle.poa_base.specs.declared.Command.TheVariants.{Manager, Destroy, Deactivate, Shutdown}
use Rattle.poa_base.specs.declared.Order.TheVariants.{Deactivate as DeactivateAll}
use Rattle.poa_base.specs.declared.Entry.{Entry}
use Rattle.history_standing.specs.declared.activation.Activation.{Activation}
use Rattle.history_standing.specs.Nodes.{stands_under}
use Rattle.history_standing.specs.Templates.{has_activator, manager_at, manager_number}
use Rattle.history_standing.specs.Standings.{Standing, is_of}
use Rattle.history_standing.specs.Logs.{command_done}
use Rattle.history_standing.specs.Opening.{number_at}
use Rattle.history_standing.specs.Changes.{standing}

-- the command deactivates the activation's id, destroys its adapter or one above it, or deactivates the manager of
-- its adapter, which has a servant activator, so that it etherealizes
abbrev pub ends : Config → Standing → Activation → Option Command → Bool
ends c s a (Some (Deactivate p oid)) = is_of (number_at s p) oid a
ends c s a (Some (Destroy p etherealize wait)) = stands_under s.nodes p a.adapter
ends c s a (Some Shutdown) = stands_under s.nodes [] a.adapter
ends c s a (Some (Manager name (DeactivateAll true wait))) =
    elim (manager_number c name) [ Some m ↦ has_activator c a.path && (manager_at c a.path == m) | None ↦ false ]
ends c s a command = false

-- it is a destroy that etherealizes nothing
abbrev pub keeps_servants : Option Command → Bool
keeps_servants (Some (Destroy p etherealize wait)) = not etherealize
keeps_servants command = false

-- the activation was begun by then, and the entry ends it
abbrev pub is_ended_by : Config → ℕ → List Entry → Entry → Activation → Bool
is_ended_by c run past e a =
    nat_lt a.number (length (standing c run past).activations) && ends c (standing c run past) a (command_done past e)

-- since its begin some entry ended it
abbrev pub was_ended : Config → ℕ → List Entry → Activation → Bool
was_ended c run [] a = false
was_ended c run (e ∷ past) a = is_ended_by c run past e a || was_ended c run past a

-- the first of these was a destroy that etherealizes nothing
abbrev pub was_quieted : Config → ℕ → List Entry → Activation → Bool
was_quieted c run [] a = false
was_quieted c run (e ∷ past) a =
    if was_ended c run past a then was_quieted c run past a else is_ended_by c run past e a && keeps_servants (command_done past e)
