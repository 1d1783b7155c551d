-- What a change makes of an activation.
use Rattle.std.specs.Prelude.{List, [], true}
use Rattle.history_standing.specs.declared.activation.Activation.{Activation}
use Rattle.history_standing.specs.declared.flight.Flight.{Flight}
use Rattle.history_standing.specs.Ends.{let_out}
use Rattle.history_standing.specs.Standings.{Standing}
use Rattle.history_standing.specs.Changes.{come_to}
use Rattle.active_map.specs.declared.change.Change.{Change}
use Rattle.active_map.specs.declared.change.Change.TheVariants.{Come, TakeOut, Etherealize, LetOut}

-- nothing stands but these requests in flight
abbrev pub flown : List Flight → Standing
flown flights = record { nodes = []; count = 0; made = 0; flights = flights; activations = [] }

abbrev pub made : Change → Activation → Activation
made (Come phase) a = come_to phase a
made (TakeOut remaining) a = record a { out = true; remaining = remaining }
made Etherealize a = record a { etherealized = true }
made (LetOut c flights) a = let_out c.now (flown flights.now) a
