use Rattle.std.proofs.Common.{subst}
use Rattle.core_outboxes.specs.Owed.{AreOwed}
use Rattle.poa_history.specs.Life.{Life}
use Rattle.core_run.proofs.run.Run.desk.Goals as goal

pub returns : goal.returns
returns c =
    (let i = c.self.inside.inside in
    subst (λ (l : Life). AreOwed l.config l.run l.history i.desk.owing.items) c.self.view_is c.self.invariant.agrees.owed)
