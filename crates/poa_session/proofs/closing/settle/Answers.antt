use Rattle.std.proofs.Common.{[], sym, subst, append-nil, ◌∙◌}
use Rattle.poa_base.specs.declared.SessionEnd.TheVariants.{WantMemory}
use Rattle.seat_lock.specs.Seats.{view}
use Rattle.outside.specs.Link.{Moves}
use Rattle.poa_session.proofs.Ending.{closed_whole, settles_broken, settles_closed, settles_now, settles_short}
use Rattle.poa_session.proofs.closing.settle.Goals as goal

pub returns-then-not-is_settling-clause-settles : goal.returns-then-not-is_settling-clause-settles
returns-then-not-is_settling-clause-settles g c = λ givens given.
    settles_now givens c.args.conn.now.peer c.args.conn.now.number (view c.args.seat.now) (g.L.Link.shown c.args.link.now) c.args.input c.args.end
    (sym c.is_settling.ensures ∙ c.if-not-is_settling.true)

pub returns-in-Err-clause-settles : goal.returns-in-Err-clause-settles
returns-in-Err-clause-settles g c = λ givens given.
    (let paid = c.in-Err.ensures.pays givens given in
    settles_broken givens c.args.conn.now.peer c.args.conn.now.number (view c.args.seat.now) (g.L.Link.shown c.args.link.now) c.args.input c.args.end
    (view c.pay.new.seat) paid.due paid.adds paid.same (g.L.Link.shown c.pay.new.link) paid.done c.in-Err.broken
    paid.moved paid.paid)

pub returns-then-not-close-clause-settles : goal.returns-then-not-close-clause-settles
returns-then-not-close-clause-settles g c = λ givens given.
    (let paid = c.in_default.ensures.pays givens given in
    let wrote = c.if-not-close.ensures.writes in
    settles_short givens c.args.conn.now.peer c.args.conn.now.number (view c.args.seat.now) (g.L.Link.shown c.args.link.now) c.args.input c.args.end
    (view c.pay.new.seat) paid.due paid.adds paid.same (sym c.is_settling.ensures ∙ c.if-not-is_settling.false) paid.paid.1
    c.in-Ok.minor (c.in-Ok.ensures.first c.args.conn.now.peer) (g.L.Link.shown c.pay.new.link) (g.L.Link.shown c.close.new.link) wrote.done wrote.rest
    (subst (Moves (g.L.Link.shown c.args.link.now) (g.L.Link.shown c.pay.new.link) []) paid.paid.0 paid.moved) wrote.moved wrote.front)

pub returns-clause-settles : goal.returns-clause-settles
returns-clause-settles g c = λ givens given.
    (let paid = c.in_default.ensures.pays givens given in
    settles_closed givens c.args.conn.now.peer c.args.conn.now.number (view c.args.seat.now) (g.L.Link.shown c.args.link.now) c.args.input c.args.end
    (view c.pay.new.seat) paid.due paid.adds paid.same (sym c.is_settling.ensures ∙ c.if-not-is_settling.false) paid.paid.1
    c.in-Ok.minor (c.in-Ok.ensures.first c.args.conn.now.peer) (g.L.Link.shown c.pay.new.link) (g.L.Link.shown c.close.new.link)
    (subst (Moves (g.L.Link.shown c.args.link.now) (g.L.Link.shown c.pay.new.link) []) paid.paid.0 paid.moved)
    (closed_whole _ _ _ c.if-not-close.ensures.writes))

pub returns-in_default-closing_minor-clause-settles : goal.returns-in_default-closing_minor-clause-settles
returns-in_default-closing_minor-clause-settles g c = λ givens given.
    (let paid = c.in_default.ensures.pays givens given in
    settles_broken givens c.args.conn.now.peer c.args.conn.now.number (view c.args.seat.now) (g.L.Link.shown c.args.link.now) c.args.input c.args.end
    (view c.pay.new.seat) paid.due paid.adds paid.same (g.L.Link.shown c.pay.new.link) paid.due WantMemory
    (subst (Moves (g.L.Link.shown c.args.link.now) (g.L.Link.shown c.pay.new.link) []) paid.paid.0 paid.moved)
    ([], sym (append-nil paid.due)))
