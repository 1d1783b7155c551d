use Rattle.std.proofs.Common.{arith, length-append}
use Rattle.servant_kinds.proofs.Rooms.{length-le-size_of}
use Rattle.servant_kinds.proofs.log.append.Goals as goal

pub overflow_cast-result : goal.overflow_cast-result
overflow_cast-result c =
    grind (arith, length-le-size_of c.args.entries.now, c.in_ok-push.ensures.ok, c.requires, length-append)
