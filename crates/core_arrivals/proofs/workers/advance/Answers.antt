use Rattle.std.proofs.Common.{sym, subst}
use Rattle.core_arrivals.specs.Begun.{FlagsAgree}
use Rattle.core_arrivals.proofs.workers.advance.Goals as goal

pub returns : goal.returns
returns c = λ past knows.
    record {
      begun = c.advance_stages.ensures.stages past knows.begun;
      stopped = c.advance_abandoned.ensures past (subst (FlagsAgree past) (sym c.advance_stages.ensures.abandoned) knows.stopped);
    }
