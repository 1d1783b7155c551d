use Rattle.std.proofs.Common.{rules}
use Rattle.poa_shared_tests.proofs.Notes.{may_enter, new_writer}
use Rattle.seat_lock.proofs.Calls.{put_taken}
use Rattle.poa_shared_tests.proofs.shared.enter.Goals as goal

pub put-requires-clause-history : goal.put-requires-clause-history
put-requires-clause-history g c = put_taken _ c.args.seat.now.me.0 _ _ c.take-diary.result.notes.items _ c.take-diary.ensures.view.1
    (may_enter c.enter-entered.result _ _ _ c.enter-entered.ensures.ok c.enter-entered.ensures.fresh c.enter-entered.ensures.err)

pub returns-clause-writer : goal.returns-clause-writer
returns-clause-writer g c =
    new_writer c.args.seat.now.me.0 c.take-diary.new.seat.me.0 c.put.new.seat.me.0 _ c.take-diary.result.notes.items c.enter-entered.new.self.notes.items _
    c.take-diary.ensures.view.1 (search rules) (search rules) (search rules)
