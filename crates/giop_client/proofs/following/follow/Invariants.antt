use Rattle.std.proofs.Common.{◌+◌}
use Rattle.outside.specs.Told.{IfTold}
use Rattle.giop_client.specs.Counting.{IsLater}
use Rattle.giop_client.proofs.Journeys.{SoFar}
use Rattle.giop_client.proofs.following.follow.Given as goal

abbrev pub invariant-loop-followed : goal.invariant-loop-followed
invariant-loop-followed g l =
    IfTold (g.C.Connector.calls l.fn.connector) (g.C.Connector.calls l.connector)
    (SoFar (record { operation = l.operation; argument = l.argument; hops = l.hops }) l.ior (l.followed + 2) l.next)
    × IsLater (g.C.Connector.tally l.fn.connector) (g.C.Connector.tally l.connector)
