use Rattle.std.specs.Prelude.{None}
use Rattle.naming_context.proofs.Bindings.{has_target}
use Rattle.naming_context.proofs.contexts.take_in.Goals as goal

pub returns-clause-now : goal.returns-clause-now
returns-clause-now c = has_target c.args.component.now None c.args.bindings.now c.remove-was.new.self c.remove-was.ensures.updates.0
