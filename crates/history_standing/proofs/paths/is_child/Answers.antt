use Rattle.std.proofs.Common.{sym, ap, ◌∙◌}
use Rattle.history_standing.specs.Paths.{same_bytes}
use Rattle.history_standing.proofs.Ends.{lasts_tell, rest_tells}
use Rattle.history_standing.proofs.paths.is_child.Goals as goal

pub returns-then-eq : goal.returns-then-eq
returns-then-eq c =
    c.eq-then-eq.ensures
    ∙ rest_tells c.args.path.now c.args.parent.now c.last-item.result c.args.name.now c.in-len1-up.len_at_least c.last-item.is
    (ap (λ x. same_bytes x c.args.name.now) (sym c.as_slice.ensures.value) ∙ sym c.eq.ensures ∙ c.if-eq.true)

pub returns-else-eq : goal.returns-else-eq
returns-else-eq c =
    c.if-eq.false
    ∙ sym (lasts_tell c.args.path.now c.args.parent.now c.last-item.result c.args.name.now c.in-len1-up.len_at_least c.last-item.is
    (ap (λ x. same_bytes x c.args.name.now) (sym c.as_slice.ensures.value) ∙ sym c.eq.ensures ∙ c.if-eq.false))
