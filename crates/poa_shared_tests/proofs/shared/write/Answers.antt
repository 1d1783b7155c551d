use Rattle.std.proofs.Common.{rules, arith}
use Rattle.poa_shared_tests.proofs.Notes.{may_add, still_writer, writer_low}
use Rattle.seat_lock.proofs.Calls.{entered, put_taken}
use Rattle.poa_shared_tests.proofs.shared.write.Goals as goal

pub add-added-requires : goal.add-added-requires
add-added-requires g c =
    let low =
    writer_low c.args.seat.now.me.0 c.take-diary.result.notes.items c.take-diary.result.writers c.args.entry.writer c.take-diary.ensures.taken.1
    c.requires.writer c.take-diary.result.known in omega arith

pub put-requires-clause-history : goal.put-requires-clause-history
put-requires-clause-history g c = put_taken _ c.args.seat.now.me.0 _ _ c.take-diary.result.notes.items _ c.take-diary.ensures.view.1
    (may_add c.add-added.result _ _ _ c.args.entry c.add-added.ensures.ok c.add-added.ensures.err
    (entered _ c.args.seat.now.me.0 c.take-diary.result.notes.items _ _ c.take-diary.ensures.taken.1 c.requires.writer.1 c.requires.writer.2))

pub returns-in_err-added-clause-writer : goal.returns-in_err-added-clause-writer
returns-in_err-added-clause-writer g c =
    still_writer c.args.seat.now.me.0 c.take-diary.new.seat.me.0 c.put.new.seat.me.0 _ c.take-diary.result.notes.items c.add-added.new.self.notes.items _
    c.take-diary.ensures.view.1 (search rules) c.take-diary.ensures.taken.1
    (may_add c.add-added.result _ _ _ c.args.entry c.add-added.ensures.ok c.add-added.ensures.err
    (entered _ c.args.seat.now.me.0 c.take-diary.result.notes.items _ _ c.take-diary.ensures.taken.1 c.requires.writer.1 c.requires.writer.2)) c.requires.writer

pub returns-clause-writer : goal.returns-clause-writer
returns-clause-writer g c =
    still_writer c.args.seat.now.me.0 c.take-diary.new.seat.me.0 c.put.new.seat.me.0 _ c.take-diary.result.notes.items c.add-added.new.self.notes.items _
    c.take-diary.ensures.view.1 (search rules) c.take-diary.ensures.taken.1
    (may_add c.add-added.result _ _ _ c.args.entry c.add-added.ensures.ok c.add-added.ensures.err
    (entered _ c.args.seat.now.me.0 c.take-diary.result.notes.items _ _ c.take-diary.ensures.taken.1 c.requires.writer.1 c.requires.writer.2)) c.requires.writer
