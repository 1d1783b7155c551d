use Rattle.std.proofs.Common.{ap}
use Rattle.seat_lock.specs.Seats.{view}
use Rattle.poa_history.specs.declared.Phase.TheVariants.{Abandoned}
use Rattle.poa_history.specs.Life.{Life}
use Rattle.poa_session.proofs.Phases.{looks_at}
use Rattle.poa_session.proofs.paying.look_within.Goals as goal

pub returns-in-Abandoned-clause-looks : goal.returns-in-Abandoned-clause-looks
returns-in-Abandoned-clause-looks g c = λ givens given.
    (let e = c.in-Abandoned.ensures.phase givens given in
    looks_at givens (view c.args.seat.now) e.0 (view c.phase_within.new.seat) (Abandoned c.in-Abandoned.worker) e.1 (ap (λ (l : Life). l.history) e.2.0) e.2.1)
