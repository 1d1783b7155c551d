use Rattle.std.proofs.Common.{refl}
use Rattle.core_outboxes.proofs.Coming.{waits_not}
use Rattle.core_outboxes.proofs.advancing.set_wait.Goals as goal

pub returns-in_default : goal.returns-in_default
returns-in_default c =
    record {
      owing = waits_not c.args.entry.now c.args.wait c.args.desk.now.owing.items c.in_default.not-Admit;
      files = λ fs files. files;
      due = refl;
      spare = λ conn room. room;
    }
