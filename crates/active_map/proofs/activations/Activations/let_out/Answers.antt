use Rattle.std.proofs.Common.{◌∙◌, sym, ap₂}
use Rattle.active_map.proofs.RowsKept.{tabled}
use Rattle.active_map.proofs.activations.Activations.let_out.Goals as goal

pub returns-then-not-has_none_to_go : goal.returns-then-not-has_none_to_go
returns-then-not-has_none_to_go c = λ s flown.
    c.let_out_all.ensures s flown ∙ ap₂ tabled c.let_few_out.ensures.forgotten (c.let_few_out.ensures.kept s flown)

pub returns-else-not-has_none_to_go : goal.returns-else-not-has_none_to_go
returns-else-not-has_none_to_go c = λ s flown.
    ap₂ tabled c.let_few_out.ensures.forgotten
    (sym (c.has_none_to_go.ensures c.if-not-has_none_to_go.false s flown) ∙ c.let_few_out.ensures.kept s flown)
