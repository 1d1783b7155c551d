use Rattle.std.proofs.Common.{◌==◌, filter, length, map, sym, ap, ◌∙◌}
use Rattle.core_outboxes.specs.Desk.{set_wait}
use Rattle.core_outboxes.proofs.Awaiting.{waits_apart}
use Rattle.core_outboxes.proofs.NoneWaits.{unset, none_given}
use Rattle.core_outboxes.proofs.desk.Desk.set_wait.Goals as goal

pub returns-else-is_some-clause-owing : goal.returns-else-is_some-clause-owing
returns-else-is_some-clause-owing c =
    sym (ap (λ wait. map (set_wait c.args.arrival wait) c.args.self.now.owing.items) (none_given c.args.wait (sym c.is_some.ensures ∙ c.if-is_some.false))
    ∙ unset c.args.arrival c.args.self.now.owing.items (sym c.args.self.now.waits_is ∙ c.if-self.false))

pub invariant_of-self-clause-awaited : goal.invariant_of-self-clause-awaited
invariant_of-self-clause-awaited c = λ conn. (c.args.self.now.awaited conn
    ∙ sym (waits_apart c.args.arrival c.args.wait c.args.self.now.owing.items conn)
    ∙ ap (λ os. length (filter (λ o. o.conn == conn) os)) (sym c.put_waits.ensures.waits))
