use Rattle.poa_policy.proofs.settling.last_named.Goals as goal
use Rattle.poa_policy.proofs.Listing.{last_named_more}

pub loop-i-preserved : goal.loop-i-preserved
loop-i-preserved c =
    last_named_more c.args.list.now c.args.rule c.loop-i.i c.loop-i.last _ c.loop-i-test.true c.loop-i.invariant.within c.loop-i.invariant.place
    (rw (← c.kind_of.ensures, ← c.names.ensures) c.later-last.ensures)
