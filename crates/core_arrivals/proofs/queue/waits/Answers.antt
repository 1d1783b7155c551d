use Rattle.std.proofs.Common.{◌==◌, sym, subst, ap, ◌∙◌}
use Rattle.std.specs.List.{list_any}
use Rattle.history_standing.specs.Arrivals.{arrivals}
use Rattle.poa_history.specs.Waiting.{is_waiting}
use Rattle.poa_history.specs.Numbers.{Ascends}
use Rattle.poa_history.proofs.Numbers.{ascending}
use Rattle.core_arrivals.proofs.Queueing.{waiting_told}
use Rattle.core_arrivals.proofs.queue.waits.Goals as goal

pub returns : goal.returns
returns c = λ h is.
    c.has.ensures (subst Ascends (sym is.messages_are) (ascending (is_waiting h) (arrivals h)))
    ∙ (ap (list_any (λ x. x == c.args.arrival)) is.messages_are ∙ waiting_told h c.args.arrival)
