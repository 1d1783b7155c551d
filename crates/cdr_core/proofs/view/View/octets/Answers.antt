use Rattle.std.proofs.Common.{refl}
use Rattle.cdr_core.proofs.Passing.{octets_counted}
use Rattle.cdr_core.proofs.Lying.{octets_lie}
use Rattle.cdr_core.proofs.view.View.octets.Goals as goal

pub returns-clause-ok : goal.returns-clause-ok
returns-clause-ok c = octets_counted _ _ _ _ _ refl refl c.in_ok-part.ensures.ok

pub returns-clause-lent : goal.returns-clause-lent
returns-clause-lent c = octets_lie _ _ _ (octets_counted _ _ _ _ _ refl refl c.in_ok-part.ensures.ok)
