use Rattle.history_standing.specs.Changes.{at_number, come_to}
use Rattle.core_standing.proofs.Still.{changed_each, still_come}
use Rattle.core_standing.proofs.lives.complete.Goals as goal

pub returns : goal.returns
returns c =
    changed_each c.args.standing.now _ (at_number c.args.number (come_to c.args.phase)) (still_come c.args.number c.args.phase) c.bring.ensures
