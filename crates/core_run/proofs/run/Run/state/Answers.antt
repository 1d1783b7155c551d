use Rattle.std.proofs.Common.{subst}
use Rattle.core_state.specs.State.{StateAgrees}
use Rattle.poa_history.specs.Life.{Life, opened}
use Rattle.core_run.specs.Agreeing.{CountsAgree, RemovalsAgree}
use Rattle.core_run.proofs.Agreed.{counts_agree, removals_agree}
use Rattle.core_run.proofs.run.Run.state.Goals as goal

pub returns-clause-counts : goal.returns-clause-counts
returns-clause-counts c =
    (let i = c.self.inside.inside in
    subst (λ (l : Life). CountsAgree l i.state) c.self.view_is (counts_agree i c.self.invariant))

pub returns-clause-removals : goal.returns-clause-removals
returns-clause-removals c =
    (let i = c.self.inside.inside in
    subst (λ (l : Life). RemovalsAgree l i.state) c.self.view_is (removals_agree i c.self.invariant))

pub returns-clause-state : goal.returns-clause-state
returns-clause-state c =
    (let i = c.self.inside.inside in
    subst (λ (l : Life). StateAgrees l.config l.run (opened l) l.history i.state) c.self.view_is c.self.invariant.agrees.state)
