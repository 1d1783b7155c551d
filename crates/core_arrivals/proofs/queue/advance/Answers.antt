use Rattle.std.proofs.Common.{sym, subst, ap, ◌∙◌}
use Rattle.std.specs.Prelude.{◌∷◌}
use Rattle.poa_history.specs.Legal.{MayFollow}
use Rattle.history_standing.specs.Stages.{arrival_in}
use Rattle.poa_history.specs.Entries.{stage_at}
use Rattle.core_arrivals.specs.Queued.{QueueAgrees, call_tried}
use Rattle.core_arrivals.proofs.Queueing.{kept, quiet}
use Rattle.core_arrivals.proofs.queue.advance.Goals as goal

pub returns-in-Admit : goal.returns-in-Admit
returns-in-Admit c = λ config run limit past may manned number begun called is.
    subst (λ e. QueueAgrees (e ∷ past) c.admit.new.queue) (sym c.in-Admit.is)
    (c.admit.ensures config run limit past _ _ (subst (MayFollow config run limit past) c.in-Admit.is may) is)

pub returns-in-Tried : goal.returns-in-Tried
returns-in-Tried c = λ config run limit past may manned number begun called is.
    subst (λ e. QueueAgrees (e ∷ past) c.tried.new.queue) (sym c.in-Tried.is)
    (c.tried.ensures config run limit past _ (subst (MayFollow config run limit past) c.in-Tried.is may) manned
    (c.arrival_in.ensures ∙ ap arrival_in (begun ∙ ap (stage_at past) c.in-Tried.is)) (called ∙ ap (call_tried past) c.in-Tried.is) is)

pub returns-in_default : goal.returns-in_default
returns-in_default c = λ config run limit past may manned number begun called is.
    kept c.args.entry.now past c.args.queue.now (quiet c.args.entry.now c.in_default.not-Arrive c.in_default.not-Admit c.in_default.not-Tried) is
