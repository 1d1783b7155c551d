use Rattle.std.proofs.Common.{◌≡◌, refl, ◌∙◌, le_trans, arith}
use Rattle.outside.specs.declared.accepting.Door.TheVariants as door
use Rattle.poa_session.proofs.Counted.{rose_before}
use Rattle.poa_shared.proofs.Helped.{aids_none}
use Rattle.seat_lock.specs.Seats.{view}
use Rattle.serve_run.specs.Visits.{Visit}
use Rattle.serve_run.proofs.Passing.{none_left, passed_end, passed_on, passed_still}
use Rattle.serve_run.proofs.Served.{attends_more}
use Rattle.serve_run.proofs.receiving.receive.Goals as goal

pub returns-in-Link-clause-received : goal.returns-in-Link-clause-received
returns-in-Link-clause-received g c = λ k first closed visits given so_far.
    let x : Visit g.row.A-Link.Denot = record { before = c.in-Link.link; after = c.serve-session.new.link; session = c.serve-session.result } in (
      x,
      refl,
      record {
        attends =
            attends_more k c.args.reception.now.peer g.A.Link.Link.shown visits first (view c.args.seat.now) (view c.serve-session.new.seat) so_far.attends x
            (c.serve-session.ensures.served k (so_far.attends.given ∙ given));
        passes =
            passed_on visits x (g.A.Acceptor.standing closed) (g.A.Acceptor.standing c.args.door.now) (g.A.Acceptor.standing c.next.new.self)
            (g.A.Acceptor.standing c.give_back.new.self) so_far.passes c.in-Link.ensures.standing c.give_back.ensures.standing;
        steady = c.give_back.ensures.faults ∙ (c.in-Link.ensures.counted (λ (q : door.Link c.in-Link.link ≡ door.Failed). cc) ∙ so_far.steady);
        later = (let before = so_far.later in let after = c.in-Link.ensures.ended.later in let back = c.give_back.ensures.ends in omega arith);
      },
    )

pub returns-in-Quiet-clause-received : goal.returns-in-Quiet-clause-received
returns-in-Quiet-clause-received g c = λ k first closed visits given so_far. record {
  attends = so_far.attends;
  passes =
      passed_still visits (g.A.Acceptor.standing closed) (g.A.Acceptor.standing c.args.door.now) (g.A.Acceptor.standing c.next.new.self) so_far.passes
      c.in-Quiet.ensures.standing;
  steady = c.in-Quiet.ensures.counted (λ (q : door.Quiet ≡ door.Failed). cc) ∙ so_far.steady;
  later = le_trans so_far.later c.in-Quiet.ensures.ended.later;
}

pub returns-in-End-clause-received : goal.returns-in-End-clause-received
returns-in-End-clause-received g c = λ k first closed visits given so_far. (
  record {
    attends = so_far.attends;
    passes =
        passed_end visits (g.A.Acceptor.standing closed) (g.A.Acceptor.standing c.args.door.now) (g.A.Acceptor.standing c.next.new.self) so_far.passes
        c.in-End.ensures.standing;
    steady = c.in-End.ensures.counted (λ (q : door.End ≡ door.Failed). cc) ∙ so_far.steady;
    later = le_trans so_far.later c.in-End.ensures.ended.later;
  },
  (
    none_left (g.A.Acceptor.standing c.args.door.now) (g.A.Acceptor.standing c.next.new.self) c.in-End.ensures.standing,
    rose_before _ _ _ so_far.later (c.in-End.ensures.ended.rose refl),
  ),
)

pub returns-in-Quiet-clause-aids : goal.returns-in-Quiet-clause-aids
returns-in-Quiet-clause-aids g c = aids_none c.args.aid.now.seat

pub returns-in-End-clause-aids : goal.returns-in-End-clause-aids
returns-in-End-clause-aids g c = aids_none c.args.aid.now.seat

pub returns-in-Failed-clause-aids : goal.returns-in-Failed-clause-aids
returns-in-Failed-clause-aids g c = aids_none c.args.aid.now.seat
