use Rattle.std.proofs.Common.{subst}
use Rattle.poa_history.specs.Life.{Life}
use Rattle.core_run.specs.Agreeing.{QueuesAgree}
use Rattle.core_run.specs.Known.{TablesAgree}
use Rattle.core_run.proofs.Agreed.{queues_agree}
use Rattle.core_run.proofs.run.Run.tables.Goals as goal

pub returns-clause-queues : goal.returns-clause-queues
returns-clause-queues c =
    (let i = c.self.inside.inside in
    subst (λ (l : Life). QueuesAgree l i.tables) c.self.view_is (queues_agree i c.self.invariant))

pub returns-clause-tables : goal.returns-clause-tables
returns-clause-tables c =
    (let i = c.self.inside.inside in
    subst (λ (l : Life). TablesAgree l.config l.run l.history i.tables) c.self.view_is c.self.invariant.agrees.tables)
