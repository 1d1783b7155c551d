use Rattle.std.proofs.Common.{[], ◌∙◌, rules, subst}
use Rattle.std.specs.Prelude.{Ok}
use Rattle.seat_lock.specs.Seats.{view}
use Rattle.poa_session.specs.Giving.{GivesNext}
use Rattle.poa_session.proofs.Collects.{gives_all, gives_lost, gives_none, gives_one}
use Rattle.poa_session.proofs.Saying.{said_on}
use Rattle.poa_session.proofs.collecting.gather_within.Goals as goal

pub loop-init : goal.loop-init
loop-init g c = record {
  ends = (tt, tt);
  seat = search rules;
  conn = c.requires.conn;
  given = λ able. able;
  gives = λ givens given. gives_none givens c.args.conn (view c.args.seat.now) c.args.given.now.items;
}

pub returns-in_default-clause-gives : goal.returns-in_default-clause-gives
returns-in_default-clause-gives g c = λ givens given.
    (let before = c.loop.invariant.gives givens given in
    let next = c.in_default.ensures.next givens (before.adds.given ∙ given) in
    gives_lost givens c.args.conn (view c.args.seat.now) (view c.loop.seat)
    (view c.collect_next.new.seat) c.args.given.now.items c.loop.given.items before next.0 c.collect_next.new.given.items _ next.1)

pub returns-in-Some-next-clause-gives : goal.returns-in-Some-next-clause-gives
returns-in-Some-next-clause-gives g c = λ givens given.
    (let before = c.loop.invariant.gives givens given in
    let next =
    subst (λ o. GivesNext givens c.args.conn (view c.loop.seat) (view c.collect_next.new.seat) c.loop.given.items c.collect_next.new.given.items (Ok o))
    c.in-Some-next.is
    (c.in-Ok.ensures.next givens (before.adds.given ∙ given)) in
    gives_all givens c.args.conn (view c.args.seat.now) (view c.loop.seat)
    (view c.collect_next.new.seat) c.args.given.now.items c.loop.given.items before c.in-Some-next.owed c.collect_next.new.given.items next.0 next.1)

pub loop-preserved : goal.loop-preserved
loop-preserved g c = record {
  ends = (tt, tt);
  seat = c.in-Ok.ensures.seat;
  conn = c.in-Ok.ensures.conn;
  given = λ able. c.in-Ok.ensures.given (c.loop.invariant.given able);
  gives = λ givens given.
      (let before = c.loop.invariant.gives givens given in
      let next =
      subst (λ o. GivesNext givens c.args.conn (view c.loop.seat) (view c.collect_next.new.seat) c.loop.given.items c.collect_next.new.given.items
      (Ok o)) c.in_default-next.is
      (c.in-Ok.ensures.next givens (before.adds.given ∙ given)) in
      gives_one givens c.args.conn (view c.args.seat.now) (view c.loop.seat)
      (view c.collect_next.new.seat) c.args.given.now.items c.loop.given.items before next.0 c.collect_next.new.given.items next.1 next.2);
}

pub collect_next-requires-clause-said : goal.collect_next-requires-clause-said
collect_next-requires-clause-said g c =
    (let said = c.requires.said in
    let before = c.loop.invariant.gives said.givens said.given in
    said_on c.args.conn (view c.args.seat.now) (view c.loop.seat) said [] before.due before.adds tt)
