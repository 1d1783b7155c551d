use Rattle.std.proofs.Common.{rules, ap, sym, ◌∙◌}
use Rattle.cdr_core.specs.Cursor.{Cursor}
use Rattle.cdr_core.proofs.Passing.{takes_le, takes_be}
use Rattle.cdr_core.proofs.view.View.eight.Goals as goal

pub returns-then-little-clause-ok : goal.returns-then-little-clause-ok
returns-then-little-clause-ok c =
    takes_le _ _ _ _ (ap (λ (x : Cursor). x.little) (sym c.self.view_is) ∙ c.if-little.true) (search rules) c.from_le_bytes.ensures c.in_ok-body.ensures.ok

pub returns-else-little-clause-ok : goal.returns-else-little-clause-ok
returns-else-little-clause-ok c =
    takes_be _ _ _ _ (ap (λ (x : Cursor). x.little) (sym c.self.view_is) ∙ c.if-little.false) (search rules) c.from_be_bytes.ensures c.in_ok-body.ensures.ok
