use Rattle.std.proofs.Common.{◌==◌, sym, subst, ap, ◌∙◌}
use Rattle.std.specs.List.{list_any}
use Rattle.history_standing.specs.Arrivals.{arrivals}
use Rattle.history_standing.specs.Situations as situations
use Rattle.poa_history.specs.Numbers.{Ascends}
use Rattle.poa_history.proofs.Numbers.{ascending}
use Rattle.core_arrivals.proofs.Queueing.{crowded_told}
use Rattle.core_arrivals.proofs.queue.is_crowded.Goals as goal

pub returns : goal.returns
returns c = λ h is.
    c.has.ensures (subst Ascends (sym is.crowded_are) (ascending (situations.is_crowded h) (arrivals h)))
    ∙ (ap (list_any (λ x. x == c.args.arrival)) is.crowded_are ∙ crowded_told h c.args.arrival)
