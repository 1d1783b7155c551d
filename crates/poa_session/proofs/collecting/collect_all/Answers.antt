use Rattle.std.proofs.Common.{subst, sym}
use Rattle.std.specs.Prelude.{Ok, Err}
use Rattle.seat_lock.specs.Seats.{view}
use Rattle.poa_session.specs.Giving.{AreGiven}
use Rattle.poa_session.proofs.Owed.{pays_cut, pays_lost, pays_whole}
use Rattle.poa_session.proofs.Collects.{gathers_lost, gathers_spelled}
use Rattle.poa_session.proofs.collecting.collect_all.Goals as goal

pub returns-in_default-clause-pays : goal.returns-in_default-clause-pays
returns-in_default-clause-pays g c = λ givens given.
    pays_lost givens c.args.conn (view c.args.seat.now) (view c.gather.new.seat) c.new-replies.result.bytes.items (g.L.Link.shown c.args.link.now)
    c.in_default.field-0
    (gathers_lost givens c.args.conn (view c.args.seat.now) (view c.gather.new.seat) c.new-replies.result.given.items c.gather.new.given.items
    (Err c.in_default.field-0) (c.in_default.ensures.gives givens given) c.new-replies.result.bytes.items c.in_default.field-0)

pub spell-requires : goal.spell-requires
spell-requires g c = c.in-Ok.ensures.given (subst AreGiven (sym c.new-replies.ensures.given) tt)

pub returns-in_default-spell-clause-pays : goal.returns-in_default-spell-clause-pays
returns-in_default-spell-clause-pays g c = λ givens given.
    pays_lost givens c.args.conn (view c.args.seat.now) (view c.gather.new.seat) c.spell.new.self.bytes.items (g.L.Link.shown c.args.link.now)
    c.in_default-spell.field-0
    (gathers_lost givens c.args.conn (view c.args.seat.now) (view c.gather.new.seat) c.new-replies.result.given.items c.gather.new.given.items
    (Ok c.in-Ok.owed) (c.in-Ok.ensures.gives givens given) c.spell.new.self.bytes.items c.in_default-spell.field-0)

pub returns-then-not-write_all-clause-pays : goal.returns-then-not-write_all-clause-pays
returns-then-not-write_all-clause-pays g c = λ givens given.
    pays_cut givens c.args.conn (view c.args.seat.now) (view c.gather.new.seat) c.spell.new.self.bytes.items (g.L.Link.shown c.args.link.now) c.in-Ok.owed
    (gathers_spelled givens c.args.conn (view c.args.seat.now) (view c.gather.new.seat) c.new-replies.result.given.items c.gather.new.given.items
    c.in-Ok.owed c.new-replies.ensures.given (c.in-Ok.ensures.gives givens given) c.new-replies.result.bytes.items c.spell.new.self.bytes.items
    c.new-replies.ensures.bytes c.in-Ok-spell.ensures)
    c.as_slice.result.now c.as_slice.ensures.value (g.L.Link.shown c.write_all.new.link) c.if-not-write_all.ensures.writes

pub returns-clause-pays : goal.returns-clause-pays
returns-clause-pays g c = λ givens given.
    pays_whole givens c.args.conn (view c.args.seat.now) (view c.gather.new.seat) c.spell.new.self.bytes.items (g.L.Link.shown c.args.link.now) c.in-Ok.owed
    (gathers_spelled givens c.args.conn (view c.args.seat.now) (view c.gather.new.seat) c.new-replies.result.given.items c.gather.new.given.items
    c.in-Ok.owed c.new-replies.ensures.given (c.in-Ok.ensures.gives givens given) c.new-replies.result.bytes.items c.spell.new.self.bytes.items
    c.new-replies.ensures.bytes c.in-Ok-spell.ensures)
    c.as_slice.result.now c.as_slice.ensures.value (g.L.Link.shown c.write_all.new.link) c.if-not-write_all.ensures.writes
