-- What is asked of the activation of a number.
use Rattle.std.specs.Prelude.{Bool, List, false, not, ◌&&◌, ◌==◌, Option, Some, None}
use Rattle.history_standing.specs.declared.activation.Activation.{Activation}
use Rattle.history_standing.specs.declared.activation.Phase.TheVariants.{Begun, Complete, Void}
use Rattle.poa_base.specs.declared.Config.{Config}
use Rattle.history_standing.specs.declared.flight.Flight.{Flight}
use Rattle.history_standing.specs.Standings.{is_complete, is_mapped, is_used, has_servant}
use Rattle.history_standing.specs.Templates.{has_activator}

-- where there is one
abbrev pub at_one : (Activation → Bool) → Option Activation → Bool
at_one test found = elim found [ Some a ↦ test a | None ↦ false ]

-- the other has its servant in the map of the same adapter
abbrev pub is_other : Activation → Activation → Bool
is_other a b =
    not (b.number == a.number)
    && ((b.adapter == a.adapter) && (is_mapped b && (elim a.phase [ Complete s ↦ has_servant s b | Begun ↦ false | Void ↦ false ])))

-- it is in the map and is to leave it, where these requests are in flight
abbrev pub is_to_go : Config → List Flight → Activation → Bool
is_to_go c flights a =
    a.ending && (not a.out && (is_complete a && (not (has_activator c a.path) && not (is_used flights a.number))))
