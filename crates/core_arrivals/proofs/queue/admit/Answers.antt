use Rattle.std.specs.Prelude.{refl}
use Rattle.std.proofs.Common.{sym, subst}
use Rattle.history_standing.specs.Arrivals.{arrivals}
use Rattle.history_standing.specs.Stages.{is_unadmitted}
use Rattle.poa_history.specs.Numbers.{Ascends}
use Rattle.core_arrivals.specs.Queued.{is_waiting_line}
use Rattle.poa_history.specs.Waiting.{is_waiting}
use Rattle.poa_history.proofs.Numbers.{ascending}
use Rattle.core_arrivals.proofs.Queueing.{admits}
use Rattle.core_arrivals.proofs.queue.admit.Goals as goal

pub returns : goal.returns
returns c = λ config run limit past w v may is.
    admits config run limit past w c.args.arrival v c.args.queue.now _ may is
    (c.remove.ensures (subst Ascends (sym is.unadmitted_are) (ascending (is_unadmitted past) (arrivals past))))
    (c.remove-2.ensures (subst Ascends (sym is.messages_are) (ascending (is_waiting past) (arrivals past))))
    (c.remove-3.ensures (subst Ascends (sym is.lines_are) (ascending (is_waiting_line past) (arrivals past)))) refl
