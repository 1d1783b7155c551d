use Rattle.std.proofs.Common.{arith}
use Rattle.poad_bench.proofs.Staying.{steps_stays}
use Rattle.poad_bench.proofs.guarded.Guarded.step.Goals as goal

pub invariant_of-self : goal.invariant_of-self
invariant_of-self c =
    let stays = steps_stays c.args.worker c.args.self.now.core c.step.new.self c.step.result c.step.ensures in
    let was = c.args.self.now.entered in
    let more = stays.entered in
    record { entered = omega (arith, was, more); staying = stays.staying c.args.self.now.staying }
