use Rattle.std.proofs.Common.{rules}
use Rattle.poad_cases.proofs.worked_link.make_turns.Goals as goal

pub loop-init : goal.loop-init
loop-init g c = record { ends = (tt, tt); seat = search rules }

pub loop-preserved : goal.loop-preserved
loop-preserved g c = record { ends = (tt, tt); seat = c.step.ensures.seat }
