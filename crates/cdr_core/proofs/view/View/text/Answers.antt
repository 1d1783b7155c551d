use Rattle.std.proofs.Common.{refl}
use Rattle.cdr_core.proofs.Passing.{text_counted}
use Rattle.cdr_core.proofs.Lying.{text_lies}
use Rattle.cdr_core.proofs.view.View.text.Goals as goal

pub returns-clause-ok : goal.returns-clause-ok
returns-clause-ok c = text_counted _ _ _ _ _ _ c.copy-ahead.ensures refl c.in_ok-part.ensures.ok c.in_ok-counted.ensures.ok

pub returns-clause-lent : goal.returns-clause-lent
returns-clause-lent c =
    text_lies _ _ _ (text_counted _ _ _ _ _ _ c.copy-ahead.ensures refl c.in_ok-part.ensures.ok c.in_ok-counted.ensures.ok)
