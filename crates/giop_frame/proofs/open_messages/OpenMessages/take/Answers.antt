use Rattle.std.proofs.Common.{◌≡◌, Some, length, ap, arith, rules}
use Rattle.std.specs.Map.{remove_entry}
use Rattle.giop_frame.specs.Open.{at_id, find_open, open_bytes, taken_bytes}
use Rattle.giop_frame.proofs.Sums.{weight-close}
use Rattle.giop_frame.proofs.open_messages.OpenMessages.take.Goals as goal

pub overflow_sub-self : goal.overflow_sub-self
overflow_sub-self c =
    let found : find_open c.args.id c.self.inside.by_id.entries ≡ Some c.in_ok-opened.opened = search rules in
    omega (arith, weight-close (λ o. length o.bytes) c.self.inside.by_id.entries c.args.id c.in_ok-opened.opened found, c.self.invariant.0)

pub overflow_sub-self-2 : goal.overflow_sub-self-2
overflow_sub-self-2 c =
    let found : find_open c.args.id c.self.inside.by_id.entries ≡ Some c.in_ok-opened.opened = search rules in
    omega (arith, weight-close (λ o. o.taken) c.self.inside.by_id.entries c.args.id c.in_ok-opened.opened found, c.self.invariant.1)

pub invariant_of-self-2 : goal.invariant_of-self-2
invariant_of-self-2 c =
    let es = c.self.inside.by_id.entries in
    let found : find_open c.args.id es ≡ Some c.in_ok-opened.opened = search rules in
    let is : c.remove.new.self.entries ≡ remove_entry (at_id c.args.id) es = c.remove.ensures.entries in (
      omega (arith, weight-close (λ o. length o.bytes) es c.args.id c.in_ok-opened.opened found, ap open_bytes is, c.self.invariant.0),
      omega (arith, weight-close (λ o. o.taken) es c.args.id c.in_ok-opened.opened found, ap taken_bytes is, c.self.invariant.1),
    )
