use Rattle.std.proofs.Common.{◌<◌, length, arith, ap, ◌∙◌}
use Rattle.core_outboxes.specs.Desk as desks
use Rattle.core_outboxes.proofs.InPlace.{mapped_one}
use Rattle.core_outboxes.proofs.rows.put_waits.Goals as goal

pub loop-i-preserved : goal.loop-i-preserved
loop-i-preserved c =
    let set = desks.set_wait c.args.arrival c.args.wait in
    let within : c.loop-i.i < length c.args.owing.now.items = omega arith in (
      mapped_one set c.loop-i.i c.args.owing.now.items c.loop-i.owing.items c.index_mut.result.now c.put_wait.new.owing within c.loop-i.invariant.0
          (c.put_wait.ensures ∙ ap set c.index_mut.ensures.value),
      c.loop-i.invariant.1,
      c.loop-i.invariant.2,
    )
