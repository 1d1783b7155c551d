use Rattle.std.proofs.Common.{◌≡◌, sym, subst, ap, inl, inr}
use Rattle.std.specs.Prelude.{◌∷◌, option_copied}
use Rattle.poa_base.specs.declared.Entry.TheVariants.{Tried}
use Rattle.poa_history.specs.InFlight.{IsManned}
use Rattle.poa_history.specs.Legal.{MayFollow}
use Rattle.history_standing.specs.Stages.{stage, arrival_in}
use Rattle.core_arrivals.specs.Queued.{QueueAgrees, call_tried}
use Rattle.core_arrivals.proofs.Queueing.{kept, changes_queue}
use Rattle.core_arrivals.proofs.queue.tried.Goals as goal

pub returns-in-Yes : goal.returns-in-Yes
returns-in-Yes c = λ config run limit past w.
    subst (λ a. MayFollow config run limit past (Tried w a) → IsManned config run past → c.args.arrival ≡ arrival_in (stage past w)
    → option_copied c.args.call ≡ call_tried past (Tried w a) → QueueAgrees past c.args.queue.now → QueueAgrees (Tried w a ∷ past) c.child_made.new.queue)
    (sym c.in-Yes.is) (c.child_made.ensures config run limit past w c.in-Yes.number)

pub returns-in-No : goal.returns-in-No
returns-in-No c = λ config run limit past w may manned at called is.
    kept (Tried w c.args.answer) past c.args.queue.now (elim c.in-No.is [
      | inl no_ ↦ ap (λ a. changes_queue (Tried w a)) no_
      | inr other ↦ elim other [ inl raised ↦ ap (λ a. changes_queue (Tried w a)) raised | inr dying ↦ ap (λ a. changes_queue (Tried w a)) dying ]
    ]) is
