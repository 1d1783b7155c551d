use Rattle.std.proofs.Common.{subst}
use Rattle.history_standing.specs.Trees.{In}
use Rattle.poa_history.proofs.Untouched.{activations_fewer}
use Rattle.core_standing.specs.Touched.{is_touched}
use Rattle.core_standing.proofs.Staying.{ended_others, same_all, still_others}
use Rattle.core_standing.proofs.touched.by_landing.Goals as goal

pub returns-clause-leaves : goal.returns-clause-leaves
returns-clause-leaves c = λ conf s flown still.
    (let touched = is_touched c.with_ended.result in
    ended_others conf touched s c.args.arrival (λ f q there at. c.with_ended.ensures.each f q (subst (In f) flown there) at)
    (still_others conf touched s still))

pub returns-clause-same : goal.returns-clause-same
returns-clause-same c = λ s. same_all (is_touched c.with_ended.result) s.activations _ (activations_fewer s c.args.arrival)
