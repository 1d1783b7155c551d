-- A message with nothing in front of it.
use Rattle.std.proofs.Common.{◌++◌, [], ap, refl, ◌∙◌}
use Rattle.giop_answer.specs.Outgoing.{framed}
use Rattle.giop_answer.proofs.Replies.{written_back}
use Rattle.giop_answer.proofs.outgoing.framed.Goals as goal

pub returns : goal.returns
returns c =
    c.from_vec.ensures ∙ (written_back _ c.tell_size.new.out _ (c.in_ok-tell_size.ensures.len ∙ c.deref_mut.ensures.len)
    ∙ c.in_ok-tell_size.ensures.ok [] c.args.content.now c.args.minor c.args.kind refl
    (c.deref_mut.ensures.value
    ∙ (c.in_ok-extend_from_slice.ensures.items
    ∙ (ap (λ x. x ++ c.args.content.now)
    (c.in_ok-put_header.ensures.ok ∙ ap (λ x. x ++ framed c.args.minor c.args.kind c.args.little []) c.new-message.ensures.items)))))
