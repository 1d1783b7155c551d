use Rattle.std.proofs.Common.{subst, sym}
use Rattle.poa_shared.specs.Seen.{HoldsConnection}
use Rattle.poa_shared_tests.proofs.calling.await_reply.Goals as goal

pub returns-in-Reply-clause-conn : goal.returns-in-Reply-clause-conn
returns-in-Reply-clause-conn g c =
    c.collect.ensures.holds c.args.conn (subst (λ m. HoldsConnection m.0 c.args.conn) (sym c.listen-heard.ensures.same.2) c.loop.invariant.conn)

pub loop-preserved : goal.loop-preserved
loop-preserved g c =
    record {
      ends = (tt, tt);
      seat = c.collect.ensures.seat;
      conn = c.collect.ensures.holds c.args.conn (subst (λ m. HoldsConnection m.0 c.args.conn) (sym c.listen-heard.ensures.same.2) c.loop.invariant.conn);
    }
