use Rattle.std.proofs.Common.{◌∷◌, subst, sym}
use Rattle.poa_history.specs.Legal.{MayFollow}
use Rattle.poa_history.specs.Life.{Life}
use Rattle.core_run.specs.Agrees.{history}
use Rattle.core_run.proofs.run.Run.turn.Goals as goal

pub take-requires-clause-follows : goal.take-requires-clause-follows
take-requires-clause-follows c =
    (let i = c.self.inside.inside in
    let runs = c.self.invariant.agrees.runs in
    let may = subst (λ (l : Life). MayFollow l.config l.run l.limit l.history c.args.entry) (sym c.self.view_is) c.requires.may in
    record { accepted = runs.accepted; numbered = runs.numbered; limited = runs.limited; legal = (may, runs.legal) })
