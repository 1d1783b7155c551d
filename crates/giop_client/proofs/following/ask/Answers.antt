use Rattle.std.proofs.Common.{◌∙◌, Option, subst}
use Rattle.giop_client.specs.declared.target.Target.{Target}
use Rattle.giop_client.specs.Target.{IsTarget}
use Rattle.giop_client.proofs.Visits.{told_asked}
use Rattle.giop_client.proofs.following.ask.Goals as goal

pub returns-in-Ok-clause-asks : goal.returns-in-Ok-clause-asks
returns-in-Ok-clause-asks g c =
    told_asked c.args.operation.now c.args.argument.now c.args.number c.args.reference.now c.in-Ok-Some.target c.as_slice.result.now c.visit.result
    (g.C.Connector.calls c.args.connector.now) _
    (subst (λ (found : Option Target). IsTarget c.args.reference.now found) c.in-Ok-Some.field-0-is c.in-Ok-Some.ensures.target)
    (c.as_slice.ensures ∙ c.in-Ok.ensures) c.visit.ensures.visited
