use Rattle.std.proofs.Common.{◌≡◌, ap, le_trans}
use Rattle.std.specs.Prelude.{Some}
use Rattle.poa_base.specs.declared.SessionEnd.TheVariants.{ReadFault, WriteFault}
use Rattle.seat_lock.specs.Seats.{view}
use Rattle.poa_session.specs.declared.flow.Flow.TheVariants.{Broke, Ends, On}
use Rattle.poa_session.proofs.Counted.{rose_before}
use Rattle.poa_session.proofs.Exchanges.{exchange_cut, exchange_ended, exchange_on, exchange_over}
use Rattle.poa_session.proofs.rounds.round.Goals as goal

pub returns-in-Err-clause-rounds : goal.returns-in-Err-clause-rounds
returns-in-Err-clause-rounds g c = λ givens given peer.
    exchange_over givens peer c.args.conn.now.number (view c.args.seat.now) (g.L.Link.shown c.args.link.now) c.args.input.now c.requires.conn.owns
    (view c.exchange.new.seat) c.exchange.new.input (c.in-Err.ensures.first peer) c.exchange.new.replies.bytes.items
    c.in-Err.flow (c.in-Err.ensures.exchanges givens given peer)

pub returns-then-not-write_all-clause-rounds : goal.returns-then-not-write_all-clause-rounds
returns-then-not-write_all-clause-rounds g c = λ givens given peer.
    exchange_cut givens peer c.args.conn.now.number (view c.args.seat.now) (g.L.Link.shown c.args.link.now) c.args.input.now c.requires.conn.owns
    (view c.exchange.new.seat) c.exchange.new.input (c.in-Ok.ensures.first peer) c.exchange.new.replies.bytes.items
    c.in-Ok.exchanged (c.in-Ok.ensures.exchanges givens given peer) c.deref.result.now c.deref.ensures.value
    (g.L.Link.shown c.write_all.new.link) c.if-not-write_all.ensures.writes

pub returns-in-Some-clause-rounds : goal.returns-in-Some-clause-rounds
returns-in-Some-clause-rounds g c = λ givens given peer.
    exchange_ended givens peer c.args.conn.now.number (view c.args.seat.now) (g.L.Link.shown c.args.link.now) c.args.input.now c.requires.conn.owns
    (view c.exchange.new.seat) c.exchange.new.input (c.in-Ok.ensures.first peer) c.exchange.new.replies.bytes.items
    c.in-Ok.exchanged (c.in-Ok.ensures.exchanges givens given peer) c.deref.result.now c.deref.ensures.value
    (g.L.Link.shown c.write_all.new.link) c.if-not-write_all.ensures.writes
    c.take_in.new.input (g.L.Link.shown c.take_in.new.link) c.in-Some.end c.in-Some.ensures.takes

pub returns-in-None-clause-rounds : goal.returns-in-None-clause-rounds
returns-in-None-clause-rounds g c = λ givens given peer.
    exchange_on givens peer c.args.conn.now.number (view c.args.seat.now) (g.L.Link.shown c.args.link.now) c.args.input.now c.requires.conn.owns
    (view c.exchange.new.seat) c.exchange.new.input (c.in-Ok.ensures.first peer) c.exchange.new.replies.bytes.items
    c.in-Ok.exchanged (c.in-Ok.ensures.exchanges givens given peer) c.deref.result.now c.deref.ensures.value
    (g.L.Link.shown c.write_all.new.link) c.if-not-write_all.ensures.writes
    c.take_in.new.input (g.L.Link.shown c.take_in.new.link) c.in-None.ensures.takes

pub returns-then-not-write_all-clause-read : goal.returns-then-not-write_all-clause-read
returns-then-not-write_all-clause-read g c = λ givens given. record {
  later = c.if-not-write_all.ensures.writes.moved.read_faults;
  rose = λ is. absurd (let e : Broke WriteFault ≡ Ends ReadFault = is in cc);
}

pub returns-in-Some-clause-read : goal.returns-in-Some-clause-read
returns-in-Some-clause-read g c = λ givens given.
    (let moved = c.if-not-write_all.ensures.writes.moved in
    record {
      later = le_trans moved.read_faults c.in-Some.ensures.failed.later;
      rose = λ is. rose_before _ _ _ moved.read_faults
          (c.in-Some.ensures.failed.rose (let e : Ends c.in-Some.end ≡ Ends ReadFault = is in let same : c.in-Some.end ≡ ReadFault = cc in ap Some same));
    })

pub returns-in-None-clause-read : goal.returns-in-None-clause-read
returns-in-None-clause-read g c = λ givens given.
    record {
      later = le_trans c.if-not-write_all.ensures.writes.moved.read_faults c.in-None.ensures.failed.later;
      rose = λ is. absurd (let e : On ≡ Ends ReadFault = is in cc);
    }
