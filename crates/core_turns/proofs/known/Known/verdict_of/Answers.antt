use Rattle.std.proofs.Common.{ap}
use Rattle.poa_history.specs.Verdicts.{verdict, verdict_on}
use Rattle.core_turns.specs.Told.{history}
use Rattle.core_turns.proofs.known.Known.verdict_of.Goals as goal

pub returns-in_default : goal.returns-in_default
unfolding verdict
returns-in_default c =
    (let known = c.args.self.now in
    ap (λ o. verdict_on known.config.now known.run (history known) c.args.arrival c.args.worker o) (c.in_default.ensures c.requires.called))
