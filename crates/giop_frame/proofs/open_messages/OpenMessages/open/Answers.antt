use Rattle.std.proofs.Common.{◌≡◌, ◌+◌, None, length, ap, ◌∙◌, sym, rules}
use Rattle.std.specs.Ordering.{nat_cmp}
use Rattle.std.specs.BTreeMap.{insert_entry}
use Rattle.giop_frame.specs.Open.{find_open, opened_by, open_bytes, taken_bytes}
use Rattle.giop_frame.proofs.Sums.{weight-open}
use Rattle.giop_frame.proofs.open_messages.OpenMessages.open.Goals as goal

pub invariant_of-self-2 : goal.invariant_of-self-2
invariant_of-self-2 c =
    let es = c.self.inside.by_id.entries in
    let absent : find_open c.args.id es ≡ None = search rules in
    let is : c.insert.new.self.entries ≡ insert_entry nat_cmp es c.args.id (opened_by c.args.at c.args.part.now) = search rules in
    let sorted = c.insert.ensures.was_ordered in (
      ap (λ n. n + length c.args.part.now) c.self.invariant.0 ∙ sym (ap open_bytes is ∙ weight-open (λ o. length o.bytes) es _ _ absent),
      ap (λ n. n + length c.args.part.now) c.self.invariant.1 ∙ sym (ap taken_bytes is ∙ weight-open (λ o. o.taken) es _ _ absent),
    )
