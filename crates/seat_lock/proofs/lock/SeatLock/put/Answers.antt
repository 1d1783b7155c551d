use Rattle.std.proofs.Common.{rules}
use Rattle.seat_lock.proofs.Passes.{passes_after, made_none_in, made_one_in}
use Rattle.seat_lock.proofs.lock.SeatLock.put.Goals as goal

pub fetch_add-served-requires : goal.fetch_add-served-requires
fetch_add-served-requires g c = (
  search rules,
  search rules,
  passes_after _ _ _ _ _ _ _ c.args.seat.now.me.0 _ c.args.value (search rules) c.requires.taker.0 c.requires.givens c.requires.history,
)

pub returns-clause-none_made : goal.returns-clause-none_made
returns-clause-none_made g c = made_none_in c.args.seat.now.me.0 c.call_next.new.seat.me.0 (g.T.Chronicle.history c.args.value) (search rules)

pub returns-clause-one_made : goal.returns-clause-one_made
returns-clause-one_made g c = made_one_in c.args.seat.now.me.0 c.call_next.new.seat.me.0 (g.T.Chronicle.history c.args.value) (search rules)
