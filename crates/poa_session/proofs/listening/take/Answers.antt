use Rattle.std.proofs.Common.{subst}
use Rattle.std.specs.Prelude.{Ok}
use Rattle.seat_lock.specs.Seats.{view}
use Rattle.session_laws.specs.HearingPieces.{AsTold, OfIntake}
use Rattle.poa_session.specs.Listening.{IsNextTold, IsSized}
use Rattle.poa_session.proofs.Heard.{hears_bad, hears_call, hears_closed, hears_lost, hears_more, hears_nothing}
use Rattle.poa_session.proofs.listening.take.Goals as goal

pub arrive-requires-clause-size : goal.arrive-requires-clause-size
arrive-requires-clause-size g c = subst (λ t. IsSized (Ok t)) c.in-Call.is (subst IsSized c.in-Ok.is c.requires.size)

pub returns-in_default-clause-hears : goal.returns-in_default-clause-hears
returns-in_default-clause-hears g c = λ givens given peer i j next. hears_lost givens peer c.args.conn.now.number (view c.args.seat.now) i j next.1

pub returns-in-Call-clause-hears : goal.returns-in-Call-clause-hears
returns-in-Call-clause-hears g c = λ givens given peer i j next.
    (let told = subst (λ r. IsNextTold i r j) c.in-Ok.is next in
    hears_call givens peer c.args.conn.now.number (view c.args.seat.now) i j told.1
    (view c.arrive.new.seat) c.in-Call.call c.in-Call.size c.arrive.result
    (subst (λ t. AsTold t (OfIntake i) (OfIntake j)) c.in-Call.is told.0) (c.arrive.ensures.arrives givens given))

pub returns-in-Nothing-clause-hears : goal.returns-in-Nothing-clause-hears
returns-in-Nothing-clause-hears g c = λ givens given peer i j next.
    (let told = subst (λ r. IsNextTold i r j) c.in-Ok.is next in
    hears_nothing givens peer c.args.conn.now.number (view c.args.seat.now) i j told.1
    (subst (λ t. AsTold t (OfIntake i) (OfIntake j)) c.in-Nothing.is told.0))

pub returns-in-More-clause-hears : goal.returns-in-More-clause-hears
returns-in-More-clause-hears g c = λ givens given peer i j next.
    (let told = subst (λ r. IsNextTold i r j) c.in-Ok.is next in
    hears_more givens peer c.args.conn.now.number (view c.args.seat.now) i j told.1 c.in-More.have
    (subst (λ t. AsTold t (OfIntake i) (OfIntake j)) c.in-More.is told.0))

pub returns-in-Closed-clause-hears : goal.returns-in-Closed-clause-hears
returns-in-Closed-clause-hears g c = λ givens given peer i j next.
    (let told = subst (λ r. IsNextTold i r j) c.in-Ok.is next in
    hears_closed givens peer c.args.conn.now.number (view c.args.seat.now) i j told.1
    (subst (λ t. AsTold t (OfIntake i) (OfIntake j)) c.in-Closed.is told.0))

pub returns-in-Bad-clause-hears : goal.returns-in-Bad-clause-hears
returns-in-Bad-clause-hears g c = λ givens given peer i j next.
    (let told = subst (λ r. IsNextTold i r j) c.in-Ok.is next in
    hears_bad givens peer c.args.conn.now.number (view c.args.seat.now) i j told.1 c.in-Bad.at
    (subst (λ t. AsTold t (OfIntake i) (OfIntake j)) c.in-Bad.is told.0))
