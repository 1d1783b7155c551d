use Rattle.std.proofs.Common.{[], arith, ap, rules, subst, sym, ◌∙◌}
use Rattle.std.specs.Prelude.{Ok, Err}
use Rattle.seat_lock.specs.Seats.{view}
use Rattle.poa_session.specs.Paying.{Pays}
use Rattle.poa_session.specs.Stopping.{Looks}
use Rattle.poa_session.proofs.Owed.{pays_abandoned, pays_all, pays_broken, pays_none, pays_on}
use Rattle.poa_session.specs.Saying.{HasSaid}
use Rattle.poa_session.proofs.Saying.{said_on}
use Rattle.poa_session.proofs.paying.pay.Goals as goal

pub loop-init : goal.loop-init
loop-init g c = record {
  ends = (tt, tt);
  seat = search rules;
  conn = c.requires.conn;
  pays = λ givens given. pays_none givens c.args.conn (view c.args.seat.now) (g.L.Link.shown c.args.link.now);
  counts = omega arith;
}

pub returns-in-Err-clause-pays : goal.returns-in-Err-clause-pays
returns-in-Err-clause-pays g c = λ givens given.
    (let before = c.loop.invariant.pays givens given in
    let same = ap (λ m. m.0) c.listen-heard.ensures.same.2 in
    pays_broken givens c.args.conn (view c.args.seat.now) (g.L.Link.shown c.args.link.now) (view c.loop.seat) (g.L.Link.shown c.loop.link) before
    (view c.collect_all.new.seat) (g.L.Link.shown c.collect_all.new.link) c.in-Err.broken
    (subst (λ v. Pays givens c.args.conn v (g.L.Link.shown c.loop.link) (view c.collect_all.new.seat) (g.L.Link.shown c.collect_all.new.link)
    (Err c.in-Err.broken)) same
    (c.in-Err.ensures.pays givens (ap (λ v. v.givens) same ∙ (before.adds.given ∙ given)))))

pub returns-then-owed-eq0-clause-pays : goal.returns-then-owed-eq0-clause-pays
returns-then-owed-eq0-clause-pays g c = λ givens given.
    (let before = c.loop.invariant.pays givens given in
    let same = ap (λ m. m.0) c.listen-heard.ensures.same.2 in
    let paid =
    subst (λ v. Pays givens c.args.conn v (g.L.Link.shown c.loop.link) (view c.collect_all.new.seat) (g.L.Link.shown c.collect_all.new.link) (Ok c.in-Ok.owed))
    same
    (c.in-Ok.ensures.pays givens (ap (λ v. v.givens) same ∙ (before.adds.given ∙ given))) in
    pays_all givens c.args.conn (view c.args.seat.now) (g.L.Link.shown c.args.link.now) (view c.loop.seat) (g.L.Link.shown c.loop.link) before
    (view c.collect_all.new.seat) (g.L.Link.shown c.collect_all.new.link)
    c.in-Ok.owed paid c.if-owed-eq0.true)

pub returns-in-Some-given_up-clause-conn : goal.returns-in-Some-given_up-clause-conn
returns-in-Some-given_up-clause-conn g c = c.look-end.ensures.holds c.args.conn c.in-Ok.ensures.conn

pub returns-in-Some-given_up-clause-pays : goal.returns-in-Some-given_up-clause-pays
returns-in-Some-given_up-clause-pays g c = λ givens given.
    (let before = c.loop.invariant.pays givens given in
    let same = ap (λ m. m.0) c.listen-heard.ensures.same.2 in
    let paid =
    subst (λ v. Pays givens c.args.conn v (g.L.Link.shown c.loop.link) (view c.collect_all.new.seat) (g.L.Link.shown c.collect_all.new.link) (Ok c.in-Ok.owed))
    same
    (c.in-Ok.ensures.pays givens (ap (λ v. v.givens) same ∙ (before.adds.given ∙ given))) in
    pays_abandoned givens c.args.conn (view c.args.seat.now) (g.L.Link.shown c.args.link.now) (view c.loop.seat) (g.L.Link.shown c.loop.link) before
    (view c.collect_all.new.seat) (g.L.Link.shown c.collect_all.new.link)
    c.in-Ok.owed paid c.in-Ok.ensures.conn.owns (view c.look-end.new.seat) c.in-Some-given_up.worker
    (subst (Looks givens (view c.collect_all.new.seat) (view c.look-end.new.seat)) c.in-Some-given_up.ensures
    (c.look-end.ensures.looks givens (paid.adds.given ∙ (before.adds.given ∙ given)))))

pub loop-preserved : goal.loop-preserved
loop-preserved g c = record {
  ends = (tt, tt);
  seat = c.look-end.ensures.seat;
  conn = c.look-end.ensures.holds c.args.conn c.in-Ok.ensures.conn;
  pays = λ givens given.
      (let before = c.loop.invariant.pays givens given in
      let same = ap (λ m. m.0) c.listen-heard.ensures.same.2 in
      let paid =
      subst (λ v. Pays givens c.args.conn v (g.L.Link.shown c.loop.link) (view c.collect_all.new.seat) (g.L.Link.shown c.collect_all.new.link)
      (Ok c.in-Ok.owed)) same
      (c.in-Ok.ensures.pays givens (ap (λ v. v.givens) same ∙ (before.adds.given ∙ given))) in
      pays_on givens c.args.conn (view c.args.seat.now) (g.L.Link.shown c.args.link.now) (view c.loop.seat) (g.L.Link.shown c.loop.link) before
      (view c.collect_all.new.seat) (g.L.Link.shown c.collect_all.new.link)
      c.in-Ok.owed paid c.in-Ok.ensures.conn.owns (view c.look-end.new.seat) c.look-end.result
      (c.look-end.ensures.looks givens (paid.adds.given ∙ (before.adds.given ∙ given))));
  counts = (let was = c.loop.invariant.counts in let more = c.in-Ok.ensures.failed.later in omega (arith, was, more));
}

pub collect_all-requires-clause-said : goal.collect_all-requires-clause-said
collect_all-requires-clause-said g c =
    (let said = c.requires.said in
    let before = c.loop.invariant.pays said.givens said.given in
    subst (HasSaid c.args.conn) (sym (ap (λ m. m.0) c.listen-heard.ensures.same.2))
    (said_on c.args.conn (view c.args.seat.now) (view c.loop.seat) said [] before.due before.adds tt))
