use Rattle.std.proofs.Common.{◌≡◌, take}
use Rattle.std.specs.List.{list_any}
use Rattle.poa_history.specs.Settling as settling
use Rattle.core_standing.specs.Seen.{seen}
use Rattle.core_standing.proofs.orders.is_flown.Given as goal

abbrev pub invariant-loop-flight : goal.invariant-loop-flight
invariant-loop-flight l =
    l.flown ≡ list_any (λ f. settling.is_managed l.config (seen l.standing) l.manager f.adapter) (take l.flight-index l.standing.flights.items)
