use Rattle.std.proofs.Common.{[], refl, inl, inr, ◌∙◌}
use Rattle.seat_lock.specs.Seats.{view}
use Rattle.poa_shared.proofs.Helped.{aids_none}
use Rattle.session_laws.specs.declared.Peer.TheVariants.{Client}
use Rattle.poa_shared.specs.Seen.{past}
use Rattle.poa_session.proofs.Adding.{adds_none}
use Rattle.poa_session.proofs.Saying.{said_twice}
use Rattle.poa_session.proofs.exchanging.hold_within.Goals as goal

pub returns-in-Some-clause-conn : goal.returns-in-Some-clause-conn
returns-in-Some-clause-conn g c = c.in-Some.ensures.holds c.args.conn.now.number c.requires.conn

pub returns-in-Some-clause-aids : goal.returns-in-Some-clause-aids
returns-in-Some-clause-aids g c = aids_none c.args.aid.now.seat

pub returns-in-Some-clause-holds : goal.returns-in-Some-clause-holds
returns-in-Some-clause-holds g c = λ givens given peer i next. inl (record { looked = c.in-Some.ensures.looks givens given })

pub listen_within-requires-clause-conn : goal.listen_within-requires-clause-conn
listen_within-requires-clause-conn g c = c.look_within.ensures.holds c.args.conn.now.number c.requires.conn

pub returns-in-Err-clause-aids : goal.returns-in-Err-clause-aids
returns-in-Err-clause-aids g c = aids_none c.args.aid.now.seat

pub returns-in-Err-clause-holds : goal.returns-in-Err-clause-holds
returns-in-Err-clause-holds g c = λ givens given peer i next.
    (let looked = c.in_default.ensures.looks givens given in
    inr (record { between = view c.look_within.new.seat; looked = looked; listened = c.in-Err.ensures.listens givens (looked.turns.given ∙ given) peer i next }))

pub returns-in-Ok-gather_within-clause-holds : goal.returns-in-Ok-gather_within-clause-holds
returns-in-Ok-gather_within-clause-holds g c = λ givens given peer i next.
    (let looked = c.in_default.ensures.looks givens given in
    let listened = c.in-Ok.ensures.listens givens (looked.turns.given ∙ given) peer i next in
    record {
      between = view c.look_within.new.seat;
      looked = looked;
      arrived = view c.listen_within.new.seat;
      listened = listened;
      given = c.in-Ok-gather_within.ensures.gives givens (listened.adds.given ∙ (looked.turns.given ∙ given));
    })

pub returns-in-Err-gather_within-clause-holds : goal.returns-in-Err-gather_within-clause-holds
returns-in-Err-gather_within-clause-holds g c = λ givens given peer i next.
    (let looked = c.in_default.ensures.looks givens given in
    let listened = c.in-Ok.ensures.listens givens (looked.turns.given ∙ given) peer i next in (
      refl,
      (
        c.in-Ok.have,
        c.in-Err-gather_within.field-0,
        record {
          between = view c.look_within.new.seat;
          looked = looked;
          arrived = view c.listen_within.new.seat;
          listened = listened;
          given = c.in-Err-gather_within.ensures.gives givens (listened.adds.given ∙ (looked.turns.given ∙ given));
        },
      ),
    ))

pub gather_within-requires-clause-said : goal.gather_within-requires-clause-said
gather_within-requires-clause-said g c =
    (let said = c.requires.said in
    let looked = c.in_default.ensures.looks said.givens said.given in
    let listened = c.in-Ok.ensures.listens said.givens (looked.turns.given ∙ said.given) Client c.requires.next.0 c.requires.next.1 in
    said_twice c.args.conn.now.number (view c.args.seat.now) (view c.look_within.new.seat) (view c.listen_within.new.seat) said [] listened.calls [] []
    (adds_none said.givens c.args.conn.now.number (view c.args.seat.now) (past (view c.look_within.new.seat)) (view c.look_within.new.seat) looked.turns
    c.requires.conn.owns refl) tt listened.adds listened.said)
