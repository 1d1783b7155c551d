use Rattle.std.proofs.Common.{subst}
use Rattle.poa_base.specs.Store.{stored as stored_in}
use Rattle.poa_history.specs.Lifetime.{HasLifetime}
use Rattle.history_laws.specs.Lasting.{KeepsUpdates, LeavesNothing}
use Rattle.poa_history.specs.Runs.{IsRun}
use Rattle.history_laws.proofs.Lasting.{keeps_updates, leaves_nothing}
use Rattle.poa_history.specs.Life.{Life, opened}
use Rattle.core_run.specs.Agrees.{history}
use Rattle.core_run.proofs.run.Run.keeps_laws.Goals as goal

pub returns-clause-runs : goal.returns-clause-runs
returns-clause-runs c =
    (let i = c.self.inside.inside in
    subst (λ (l : Life). IsRun l.config l.run l.limit l.history) c.self.view_is c.self.invariant.agrees.runs)

pub returns-clause-lifetime : goal.returns-clause-lifetime
returns-clause-lifetime c =
    (let i = c.self.inside.inside in
    subst (λ (l : Life). HasLifetime l.config l.run l.history) c.self.view_is
    (c.lifetimes_are_kept.ensures i.config i.run i.limit (history i) c.self.invariant.agrees.runs))

pub returns-clause-undone : goal.returns-clause-undone
returns-clause-undone c =
    (let i = c.self.inside.inside in
    subst (λ (l : Life). LeavesNothing l.config l.run l.history) c.self.view_is
    (leaves_nothing i.config i.run i.limit (history i) c.self.invariant.agrees.runs))

pub returns-clause-updates : goal.returns-clause-updates
returns-clause-updates c =
    (let i = c.self.inside.inside in
    subst (λ (l : Life). KeepsUpdates l.config l.run (opened l) l.history) c.self.view_is
    (keeps_updates i.config i.run i.limit (history i) c.self.invariant.agrees.runs (stored_in i.opening)))
