use Rattle.std.proofs.Common.{◌∙◌, subst}
use Rattle.seat_lock.specs.Seats.{view}
use Rattle.poa_session.specs.Listening.{Hears}
use Rattle.poa_session.proofs.Heard.{sized}
use Rattle.poa_session.proofs.Stepping.{hears_then}
use Rattle.poa_session.proofs.listening.listen_within.Goals as goal

pub take-progress-requires-clause-size : goal.take-progress-requires-clause-size
take-progress-requires-clause-size g c = sized c.args.first c.requires.next.0 c.args.input.now c.requires.next.1

pub loop-init : goal.loop-init
loop-init g c = record {
  ends = (tt, tt);
  seat = c.take-progress.ensures.seat;
  conn = c.take-progress.ensures.conn;
  first = λ peer text knows. knows;
  hears = λ givens given peer i next. c.take-progress.ensures.hears givens given peer i c.args.input.now next;
  unwritten = c.take-progress.ensures.unwritten;
}

pub loop-preserved : goal.loop-preserved
loop-preserved g c = record {
  ends = (tt, tt);
  seat = c.hear-progress.ensures.seat;
  conn = c.hear-progress.ensures.conn;
  first = λ peer text knows. c.hear-progress.ensures.first peer text (c.loop.invariant.first peer text knows);
  hears = λ givens given peer i next.
      (let before = subst (λ p. Hears givens peer c.args.conn.now.number (view c.args.seat.now) i (view c.loop.seat) c.loop.input p) c.in-On.is
      (c.loop.invariant.hears givens given peer i next) in
      hears_then givens peer c.args.conn.now.number (view c.args.seat.now) (view c.loop.seat)
      (view c.hear-progress.new.seat) i c.loop.input c.hear-progress.new.input c.hear-progress.result before
      (c.hear-progress.ensures.hears givens (before.adds.given ∙ given) peer));
  unwritten = c.hear-progress.ensures.unwritten;
}

pub returns-in-Waits-clause-listens : goal.returns-in-Waits-clause-listens
returns-in-Waits-clause-listens g c = λ givens given peer i next.
    (let all = subst (λ p. Hears givens peer c.args.conn.now.number (view c.args.seat.now) i (view c.loop.seat) c.loop.input p) c.in-Waits.is
    (c.loop.invariant.hears givens given peer i next) in
    record { calls = all.calls; said = all.said; adds = all.adds; heard = all.heard; taken = all.taken })

pub returns-in-Ends-clause-listens : goal.returns-in-Ends-clause-listens
returns-in-Ends-clause-listens g c = λ givens given peer i next.
    (let all = subst (λ p. Hears givens peer c.args.conn.now.number (view c.args.seat.now) i (view c.loop.seat) c.loop.input p) c.in-Ends.is
    (c.loop.invariant.hears givens given peer i next) in
    record { calls = all.calls; said = all.said; adds = all.adds; heard = all.heard; taken = all.taken })
