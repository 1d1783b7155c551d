use Rattle.std.specs.Prelude.{Some}
use Rattle.naming_context.proofs.Bindings.{has_target}
use Rattle.naming_context.proofs.contexts.put_in.Goals as goal

pub returns-clause-now : goal.returns-clause-now
returns-clause-now c =
    has_target c.args.component (Some c.args.target) c.args.bindings.now c.insert.new.self c.in_ok-was.ensures.updates.0
