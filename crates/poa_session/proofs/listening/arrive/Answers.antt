use Rattle.std.proofs.Common.{subst}
use Rattle.std.specs.Prelude.{Err}
use Rattle.seat_lock.specs.Seats.{view}
use Rattle.poa_core.specs.Answers.{Arrives}
use Rattle.poa_history.specs.Life.{life_at}
use Rattle.poa_shared.specs.Seen.{past}
use Rattle.poa_session.proofs.Calls.{arrives_full, arrives_on, arrives_without}
use Rattle.poa_session.proofs.listening.arrive.Goals as goal

pub returns-in-Ok-clause-arrives : goal.returns-in-Ok-clause-arrives
returns-in-Ok-clause-arrives g c = λ givens given.
    (let e = c.in-Ok.ensures.arrived givens given in
    arrives_on givens c.args.conn.now.number (view c.args.seat.now) e.0
    (view c.arrive_within.new.seat) e.1 c.requires.conn.owns c.args.call c.args.size c.in-Ok.field-0 e.2)

pub returns-in-Err-Limit-clause-arrives : goal.returns-in-Err-Limit-clause-arrives
returns-in-Err-Limit-clause-arrives g c = λ givens given.
    (let e = c.in-Err-Limit.ensures.arrived givens given in
    arrives_full givens c.args.conn.now.number (view c.args.seat.now) e.0
    (view c.arrive_within.new.seat) e.1 c.requires.conn.owns c.args.call c.args.size c.in-Err-Limit.arrivals c.in-Err-Limit.bytes
    (subst (λ f. Arrives c.args.conn.now.number c.args.call c.args.size (life_at givens e.0) (Err f) (life_at givens (past (view c.arrive_within.new.seat))))
    c.in-Err-Limit.field-0-is e.2))

pub returns-in-Err-WantMemory-clause-arrives : goal.returns-in-Err-WantMemory-clause-arrives
returns-in-Err-WantMemory-clause-arrives g c = λ givens given.
    (let e = c.in-Err-WantMemory.ensures.arrived givens given in
    arrives_without givens c.args.conn.now.number (view c.args.seat.now) e.0 (view c.arrive_within.new.seat) e.1 c.requires.conn.owns c.args.call c.args.size
    (subst (λ f. Arrives c.args.conn.now.number c.args.call c.args.size (life_at givens e.0) (Err f) (life_at givens (past (view c.arrive_within.new.seat))))
    c.in-Err-WantMemory.field-0-is e.2))
