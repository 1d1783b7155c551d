use Rattle.std.proofs.Common.{refl}
use Rattle.core_arrivals.proofs.Follows.{entered_is}
use Rattle.core_arrivals.proofs.moves.enter.Goals as goal

pub returns : goal.returns
returns c =
    λ past next few is. entered_is past c.args.tally.now _ c.args.conn next few
    (record { calls = refl; sizes = refl; full = refl; order = refl; end = refl; gave = refl }) c.push_reserved.ensures.items c.with_one-tally.ensures is
