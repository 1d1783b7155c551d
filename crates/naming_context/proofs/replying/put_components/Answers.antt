-- One more component is written behind the others.
use Rattle.std.proofs.Common.{List, ℕ, ap, ◌∙◌}
use Rattle.cdr_core.specs.Draft.{with_field}
use Rattle.cdr_core.specs.Field.{text}
use Rattle.naming_context.proofs.Writing.{components-more}
use Rattle.naming_context.proofs.replying.put_components.Goals as goal

pub loop-component-preserved : goal.loop-component-preserved
loop-component-preserved c =
    components-more _ _ c.component-item.result _ _ _ _ c.loop-component-test.true c.component-item.is c.loop-component.invariant
    (c.in_ok-put_text.ensures.ok ∙ ap (λ (bytes : List ℕ). with_field (text bytes) c.loop-component.writer) c.as_slice.ensures)
    (c.in_ok-put_text-2.ensures.ok ∙ ap (λ (bytes : List ℕ). with_field (text bytes) c.put_text.new.self) c.as_slice-in-loop-component.ensures)
