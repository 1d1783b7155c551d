use Rattle.core_arrivals.proofs.Follows.{told_none, unfilled_is}
use Rattle.core_arrivals.proofs.queries.is_unfilled.Goals as goal

pub returns : goal.returns
returns c = λ h is. told_none c.args.tally.now.filled _ _ c.is_none.ensures (unfilled_is h c.args.tally.now is)
