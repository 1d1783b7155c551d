use Rattle.std.proofs.Common.{subst, sym}
use Rattle.history_standing.specs.Changes as changes
use Rattle.history_standing.specs.Trees.{In}
use Rattle.core_standing.specs.Touched.{Others, SameOthers, is_touched}
use Rattle.core_standing.proofs.Staying.{has_own, incarnated_others, incarnated_same}
use Rattle.core_standing.proofs.touched.by_incarnation.Goals as goal

pub returns-in-Incarnating-clause-leaves : goal.returns-in-Incarnating-clause-leaves
returns-in-Incarnating-clause-leaves c = λ conf answer s flown still.
    subst (λ stage. Others conf (is_touched c.with_flights.result) (changes.with_incarnated conf stage answer s)) (sym c.in-Incarnating.is)
    (incarnated_others conf (is_touched c.with_flights.result) s c.in-Incarnating.arrival c.in-Incarnating.number answer
    (has_own (is_touched c.with_flights.result) c.in-Incarnating.number c.with_flights.ensures.before)
    (λ f k there. c.with_flights.ensures.each f k (subst (In f) flown there)) still)

pub returns-in-Incarnating-clause-same : goal.returns-in-Incarnating-clause-same
returns-in-Incarnating-clause-same c = λ conf answer s.
    (let touched = is_touched c.with_flights.result in
    subst (λ stage. SameOthers touched s.activations (changes.with_incarnated conf stage answer s).activations) (sym c.in-Incarnating.is)
    (incarnated_same conf touched s c.in-Incarnating.arrival c.in-Incarnating.number answer
    (has_own touched c.in-Incarnating.number c.with_flights.ensures.before)))
