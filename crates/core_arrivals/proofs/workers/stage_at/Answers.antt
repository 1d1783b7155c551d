use Rattle.std.proofs.Common.{sym, ◌∙◌}
use Rattle.core_arrivals.proofs.Staging.{worker_stage, at_none}
use Rattle.core_arrivals.proofs.workers.stage_at.Goals as goal

pub returns-in-Some : goal.returns-in-Some
returns-in-Some c = λ config run limit past may knows.
    (let at = worker_stage config run limit past c.args.entry.now c.in-Some.worker (sym c.in-Some.ensures) may in
    c.stage.ensures.begun past at.0 knows ∙ sym at.1)

pub returns-in-None : goal.returns-in-None
returns-in-None c = λ config run limit past may knows. sym (at_none past c.args.entry.now (sym c.in-None.ensures))
