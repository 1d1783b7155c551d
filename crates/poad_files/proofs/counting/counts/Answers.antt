use Rattle.std.proofs.Common.{arith}
use Rattle.poad_files.proofs.counting.counts.Goals as goal

pub overflow_add-len : goal.overflow_add-len
overflow_add-len c = omega (arith, c.requires.few.managers)
