use Rattle.poa_session.proofs.Heard.{sized}
use Rattle.poa_session.proofs.listening.hear.Goals as goal

pub take-requires-clause-size : goal.take-requires-clause-size
take-requires-clause-size g c = sized c.next-told.result c.args.input.now c.next-told.new.self (c.next-told.ensures.told, c.next-told.ensures.taken)

pub returns-clause-hears : goal.returns-clause-hears
returns-clause-hears g c = λ givens given peer.
    c.take.ensures.hears givens given peer c.args.input.now c.next-told.new.self (c.next-told.ensures.told, c.next-told.ensures.taken)
