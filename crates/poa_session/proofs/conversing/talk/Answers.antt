use Rattle.std.proofs.Common.{◌<◌, arith, rules, sym, subst, ap, le_trans, ◌∙◌}
use Rattle.seat_lock.specs.Seats.{view}
use Rattle.poa_shared.proofs.Helped.{aids_none, aids_through}
use Rattle.poa_session.specs.Settling.{Settles}
use Rattle.poa_session.specs.declared.flow.Flow.TheVariants.{Broke, Ends}
use Rattle.poa_session.proofs.Counted.{rose_after, rose_before}
use Rattle.poa_session.proofs.Talking.{sits_broken, sits_ended, sits_new, sits_on}
use Rattle.poa_session.proofs.Saying.{said_on, said_twice}
use Rattle.poa_session.proofs.conversing.talk.Goals as goal

pub loop-init : goal.loop-init
loop-init g c = record {
  ends = (tt, tt);
  seat = search rules;
  ready = c.requires.aid;
  aids = aids_none c.args.aid.now.seat;
  conn = c.requires.conn;
  sits = λ givens given. sits_new givens c.args.conn.now.peer c.args.conn.now.number (view c.args.seat.now)
      (g.L.Link.shown c.args.link.now) c.args.input.now c.requires.fresh c.requires.taken c.requires.first;
  writes = omega arith;
  room = c.requires.room;
}

pub loop-preserved : goal.loop-preserved
loop-preserved g c = record {
  ends = (tt, tt);
  seat = c.in-On.ensures.seat;
  ready = c.in-On.ensures.ready;
  aids = aids_through c.args.aid.now.seat c.loop.aid.seat c.round.new.aid.seat c.loop.invariant.aids c.in-On.ensures.aids;
  conn = c.in-On.ensures.conn;
  sits = λ givens given.
      (let before = c.loop.invariant.sits givens given in
      sits_on givens c.args.conn.now.peer c.args.conn.now.number (view c.args.seat.now) (g.L.Link.shown c.args.link.now) (view c.loop.seat)
      (g.L.Link.shown c.loop.link) c.loop.input before (view c.round.new.seat) (g.L.Link.shown c.round.new.link) c.round.new.input
      (c.in-On.ensures.rounds givens (before.adds.given ∙ given) c.args.conn.now.peer));
  writes = (let was = c.loop.invariant.writes in let more = c.in-On.ensures.written.later in omega (arith, was, more));
  room = subst (λ n. 0 < n) (sym c.in-On.ensures.room) c.loop.invariant.room;
}

pub returns-in-Ends-clause-converses : goal.returns-in-Ends-clause-converses
returns-in-Ends-clause-converses g c = λ givens given.
    (let before = c.loop.invariant.sits givens given in
    let went = c.in-Ends.ensures.rounds givens (before.adds.given ∙ given) c.args.conn.now.peer in
    sits_ended givens c.args.conn.now.peer c.args.conn.now.number (view c.args.seat.now) (g.L.Link.shown c.args.link.now) (view c.loop.seat)
    (g.L.Link.shown c.loop.link) c.loop.input before (view c.round.new.seat) (g.L.Link.shown c.round.new.link) c.round.new.input
    c.in-Ends.end c.settle.result (view c.settle.new.seat) (g.L.Link.shown c.settle.new.link) went
    (subst (λ i. Settles givens c.args.conn.now.peer c.args.conn.now.number (view c.round.new.seat) (g.L.Link.shown c.round.new.link) i (view c.settle.new.seat)
    (g.L.Link.shown c.settle.new.link) c.in-Ends.end c.settle.result) c.replace-read.ensures.value
    (c.settle.ensures.settles givens (went.adds.given ∙ (before.adds.given ∙ given)))))

pub returns-in-Broke-clause-converses : goal.returns-in-Broke-clause-converses
returns-in-Broke-clause-converses g c = λ givens given.
    (let before = c.loop.invariant.sits givens given in
    sits_broken givens c.args.conn.now.peer c.args.conn.now.number (view c.args.seat.now) (g.L.Link.shown c.args.link.now) (view c.loop.seat)
    (g.L.Link.shown c.loop.link) c.loop.input before (view c.round.new.seat) (g.L.Link.shown c.round.new.link) c.round.new.input
    c.in-Broke.end (c.in-Broke.ensures.rounds givens (before.adds.given ∙ given) c.args.conn.now.peer))

pub returns-in-Ends-clause-read : goal.returns-in-Ends-clause-read
returns-in-Ends-clause-read g c = λ givens given.
    (let before = c.loop.invariant.sits givens given in
    let went = c.in-Ends.ensures.rounds givens (before.adds.given ∙ given) c.args.conn.now.peer in
    let cause = c.in-Ends.ensures.read givens (before.adds.given ∙ given) in
    let moved = (c.settle.ensures.settles givens (went.adds.given ∙ (before.adds.given ∙ given))).moved in
    record {
      later = le_trans before.moved.read_faults (le_trans cause.later moved.read_faults);
      rose = λ is. rose_before _ _ _ before.moved.read_faults
          (rose_after _ _ _ cause.later (cause.rose (ap Ends (c.settle.ensures.read is))) moved.read_faults);
    })

pub returns-in-Ends-clause-written : goal.returns-in-Ends-clause-written
returns-in-Ends-clause-written g c =
    (let was = c.loop.invariant.writes in
    let more = c.in-Ends.ensures.written.later in
    let last = c.settle.ensures.failed.later in
    record { later = le_trans was (le_trans more last); rose = λ is. rose_before _ _ _ (le_trans was more) (c.settle.ensures.failed.rose is) })

pub returns-in-Broke-clause-read : goal.returns-in-Broke-clause-read
returns-in-Broke-clause-read g c = λ givens given.
    (let before = c.loop.invariant.sits givens given in
    let cause = c.in-Broke.ensures.read givens (before.adds.given ∙ given) in
    record { later = le_trans before.moved.read_faults cause.later; rose = λ is. absurd (c.in-Broke.ensures.ends.1 (ap Broke is)) })

pub returns-in-Broke-clause-written : goal.returns-in-Broke-clause-written
returns-in-Broke-clause-written g c =
    (let was = c.loop.invariant.writes in
    record { later = le_trans was c.in-Broke.ensures.written.later; rose = λ is. rose_before _ _ _ was (c.in-Broke.ensures.written.rose (ap Broke is)) })

pub returns-in-Ends-clause-aids : goal.returns-in-Ends-clause-aids
returns-in-Ends-clause-aids g c = aids_through c.args.aid.now.seat c.loop.aid.seat c.round.new.aid.seat c.loop.invariant.aids c.in-Ends.ensures.aids

pub returns-in-Broke-clause-aids : goal.returns-in-Broke-clause-aids
returns-in-Broke-clause-aids g c = aids_through c.args.aid.now.seat c.loop.aid.seat c.round.new.aid.seat c.loop.invariant.aids c.in-Broke.ensures.aids

pub round-requires-clause-said : goal.round-requires-clause-said
round-requires-clause-said g c =
    (let said = c.requires.said in
    let before = c.loop.invariant.sits said.givens said.given in
    said_on c.args.conn.now.number (view c.args.seat.now) (view c.loop.seat) said before.calls before.replies before.adds before.said)

pub settle-requires-clause-said : goal.settle-requires-clause-said
settle-requires-clause-said g c =
    (let said = c.requires.said in
    let before = c.loop.invariant.sits said.givens said.given in
    let went = c.in-Ends.ensures.rounds said.givens (before.adds.given ∙ said.given) c.args.conn.now.peer in
    said_twice c.args.conn.now.number (view c.args.seat.now) (view c.loop.seat) (view c.round.new.seat) said before.calls went.calls before.replies went.due
    before.adds before.said went.adds went.said)
