use Rattle.std.proofs.Common.{ap, ◌∙◌, not}
use Rattle.std.specs.Prelude.{if◌then◌else◌, refl}
use Rattle.history_standing.specs.Arrivals.{is_message}
use Rattle.core_arrivals.specs.Numbers.{inserted}
use Rattle.core_arrivals.proofs.Queueing.{put_back}
use Rattle.core_arrivals.proofs.queue.put_back.Goals as goal

pub returns : goal.returns
returns c = λ config run past w n manned trying called is.
    put_back config run past w n c.args.arrival c.args.queue.now _ manned trying is c.insert.ensures
    (c.insert_if.ensures ∙ ap (λ b. if b then inserted c.args.arrival c.args.queue.now.messages.items else c.args.queue.now.messages.items)
    (c.is_message-message.ensures ∙ ap is_message called))
    (c.insert_if-2.ensures ∙ ap (λ b. if b then inserted c.args.arrival c.args.queue.now.lines.items else c.args.queue.now.lines.items)
    (ap not (c.is_message-message.ensures ∙ ap is_message called)))
    refl
