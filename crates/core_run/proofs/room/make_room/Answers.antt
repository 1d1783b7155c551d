use Rattle.core_run.proofs.Ready.{tables_kept}
use Rattle.core_run.proofs.room.make_room.Goals as goal

pub returns-in_err-reserve-clause-kept : goal.returns-in_err-reserve-clause-kept
returns-in_err-reserve-clause-kept c =
    tables_kept c.args.inside.now c.reserve.new.self c.requires (c.reserve.ensures.same c.args.inside.now.config c.args.inside.now.run)

pub make_room_in_journal-requires : goal.make_room_in_journal-requires
make_room_in_journal-requires c =
    tables_kept c.args.inside.now c.reserve.new.self c.requires (c.reserve.ensures.same c.args.inside.now.config c.args.inside.now.run)
