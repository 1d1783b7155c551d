use Rattle.seat_lock.specs.Seats.{view}
use Rattle.poa_session.proofs.Collects.{next_given}
use Rattle.poa_session.proofs.Saying.{is_given}
use Rattle.poa_session.proofs.collecting.collect_next.Goals as goal

pub returns-clause-conn : goal.returns-clause-conn
returns-clause-conn g c = c.collect_within-collected.ensures.holds c.args.conn c.requires.conn

pub returns-clause-next : goal.returns-clause-next
returns-clause-next g c = λ givens given.
    (let e = c.collect_within-collected.ensures.collected givens given in
    next_given givens c.args.conn (view c.args.seat.now) e.0
    (view c.collect_within-collected.new.seat) e.1 c.requires.conn.owns c.collect_within-collected.result c.args.given.now.items
    c.keep.new.given.items c.keep.result e.2.0
    c.keep.ensures.kept)

pub keep-requires : goal.keep-requires
keep-requires g c =
    (let said = c.requires.said in
    let e = c.collect_within-collected.ensures.collected said.givens said.given in
    is_given said.givens c.args.conn (view c.args.seat.now) e.0
    (view c.collect_within-collected.new.seat) e.1 c.collect_within-collected.result c.requires.conn.owns said.said e.2)
