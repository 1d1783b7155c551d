use Rattle.std.proofs.Common.{◌∷◌, ◌++◌, [], ap, ap₂, ◌∙◌, not}
use Rattle.std.specs.Prelude.{if◌then◌else◌, nat_le}
use Rattle.core_arrivals.proofs.Queueing.{arrived}
use Rattle.core_arrivals.proofs.queue.arrive.Goals as goal

pub returns : goal.returns
returns c = λ past conn size same is.
    arrived conn size c.args.call.now past c.args.queue.now _ is
    (c.push_back_reserved.ensures.items ∙ ap (λ n. c.args.queue.now.unadmitted.items ++ n ∷ []) same)
    (c.push_if.ensures ∙ ap₂ (λ b n. if b then c.args.queue.now.messages.items ++ n ∷ [] else c.args.queue.now.messages.items) c.is_message-message.ensures
    same)
    (c.push_if-2.ensures ∙ ap₂ (λ b n. if b then c.args.queue.now.lines.items ++ n ∷ [] else c.args.queue.now.lines.items)
    (ap not c.is_message-message.ensures) same)
    (c.push_if-3.ensures ∙ ap₂ (λ m n. if nat_le 65536 m then c.args.queue.now.crowded.items ++ n ∷ [] else c.args.queue.now.crowded.items)
    (c.len.ensures ∙ c.args.queue.now.messages.ok.0) same)
