use Rattle.std.proofs.Common.{refl}
use Rattle.core_arrivals.proofs.Follows.{left_is}
use Rattle.core_arrivals.proofs.moves.leave.Goals as goal

pub returns : goal.returns
returns c =
    λ past open_ is. left_is past c.args.tally.now _ c.args.conn open_
    (record { calls = refl; sizes = refl; full = refl; order = refl; end = refl; gave = refl }) c.mark.ensures c.without_one-tally.ensures is
