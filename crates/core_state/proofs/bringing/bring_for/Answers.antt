use Rattle.std.proofs.Common.{refl}
use Rattle.core_state.specs.Kept.{kept_in}
use Rattle.core_state.proofs.Writes.{at_error, room_unchanged}
use Rattle.core_state.proofs.bringing.bring_for.Goals as goal

pub returns-in_err-insert-clause-err : goal.returns-in_err-insert-clause-err
returns-in_err-insert-clause-err c =
    at_error c.from_residual-in_err-insert.result
    (room_unchanged (kept_in c.args.servants.now)
    (kept_in (record c.args.servants.now { fresh = c.insert.new.self; store = c.reserve.new.self })) _ _ refl c.in_err-insert.ensures.err
    c.in_ok-reserve.ensures.ok)
