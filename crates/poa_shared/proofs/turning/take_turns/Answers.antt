use Rattle.std.proofs.Common.{ap, sym, subst}
use Rattle.seat_lock.specs.Seats.{view}
use Rattle.poa_shared.specs.Pauses.{Pauses}
use Rattle.poa_shared.proofs.turning.take_turns.Goals as goal

pub returns-clause-turned : goal.returns-clause-turned
returns-clause-turned g c = λ k given.
    subst (λ w. Pauses k c.args.worker (view c.args.seat.now) c.turns_within-result.result w) (sym (ap (λ m. m.0) c.tell.ensures.2))
    (c.turns_within-result.ensures.turned k given)
