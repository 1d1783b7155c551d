-- The call so far, and each of its ends.
use Rattle.std.proofs.Common.{◌≡◌, ◌+◌, refl, arith}
use Rattle.giop_client.proofs.Counted.{later_both}
use Rattle.giop_client.proofs.Journeys.{Wanted, told_none, told_on, told_end, told_over}
use Rattle.giop_client.proofs.following.follow.Goals as goal

pub returns-in-End-clause-follows : goal.returns-in-End-clause-follows
returns-in-End-clause-follows g c =
    told_end (record { operation = c.args.operation.now; argument = c.args.argument.now; hops = c.args.hops }) c.args.ior.now 1 c.args.ior.now _ c.in-End.end
    (g.C.Connector.calls c.args.connector.now) (g.C.Connector.calls c.args.connector.now) _ (omega arith) (omega arith) refl
    (told_none (record { operation = c.args.operation.now; argument = c.args.argument.now; hops = c.args.hops }) c.args.ior.now
    (g.C.Connector.calls c.args.connector.now))
    c.in-End.ensures.asks

pub returns-in-End-ask-clause-follows : goal.returns-in-End-ask-clause-follows
returns-in-End-ask-clause-follows g c =
    told_end (record { operation = c.args.operation.now; argument = c.args.argument.now; hops = c.args.hops }) c.args.ior.now
    (c.loop-followed.followed + 2) c.loop-followed.next _ c.in-End-ask.end
    (g.C.Connector.calls c.args.connector.now) (g.C.Connector.calls c.loop-followed.connector) _ (omega (arith, c.loop-followed-test.true)) (omega arith) refl
    c.loop-followed.invariant.0 c.in-End-ask.ensures.asks

pub loop-followed-preserved : goal.loop-followed-preserved
loop-followed-preserved g c = (
  told_on (record { operation = c.args.operation.now; argument = c.args.argument.now; hops = c.args.hops }) c.args.ior.now
      (c.loop-followed.followed + 2) (c.loop-followed.followed + 1 + 2) c.loop-followed.next c.in-On-ask.further
      (g.C.Connector.calls c.args.connector.now) (g.C.Connector.calls c.loop-followed.connector) _ (omega (arith, c.loop-followed-test.true)) (omega arith)
      c.loop-followed.invariant.0 c.in-On-ask.ensures.asks,
  later_both _ _ _ c.loop-followed.invariant.1 c.in-On-ask.ensures.later,
)

pub returns-clause-follows : goal.returns-clause-follows
returns-clause-follows g c =
    let done : c.loop-followed.followed ≡ c.args.hops = omega arith in
    told_over (record { operation = c.args.operation.now; argument = c.args.argument.now; hops = c.args.hops }) c.args.ior.now
    (c.loop-followed.followed + 2) c.loop-followed.next _ (g.C.Connector.calls c.args.connector.now) (g.C.Connector.calls c.loop-followed.connector)
    (omega (arith, done)) refl c.loop-followed.invariant.0
