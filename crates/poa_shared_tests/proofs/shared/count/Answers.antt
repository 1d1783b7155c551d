use Rattle.std.proofs.Common.{rules, refl, inl}
use Rattle.poa_shared_tests.proofs.Notes.{still_writer}
use Rattle.poa_shared_tests.proofs.shared.count.Goals as goal

pub returns-clause-writer : goal.returns-clause-writer
returns-clause-writer g c =
    λ w. still_writer c.args.seat.now.me.0 c.take-diary.new.seat.me.0 c.put.new.seat.me.0 _ c.take-diary.result.notes.items c.take-diary.result.notes.items w
    c.take-diary.ensures.view.1 (search rules) c.take-diary.ensures.taken.1 (inl refl)
