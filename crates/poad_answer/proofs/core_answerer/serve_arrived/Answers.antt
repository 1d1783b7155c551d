use Rattle.std.proofs.Common.{List, ℕ, ◌++◌, ◌∙◌, ap}
use Rattle.std.specs.Prelude.{is_ok, if◌then◌else◌}
use Rattle.poad_answer.proofs.Worked.{replies_given}
use Rattle.poad_answer.proofs.core_answerer.serve_arrived.Goals as goal

pub returns-clause-gives : goal.returns-clause-gives
returns-clause-gives c =
    let added = c.extend_from_slice.result in
    replies_given added c.args.core.now c.take_turns.new.core c.collected.new.core c.in_ok-bytes.bytes.items c.args.replies.now.items
    c.extend_from_slice.new.self.items c.in_ok-take_turns.ensures.works c.in_ok-bytes.ensures.collects
    (c.extend_from_slice.ensures.items
    ∙ ap (λ (b : List ℕ). if is_ok added then c.args.replies.now.items ++ b else c.args.replies.now.items) c.as_slice.ensures.value)
