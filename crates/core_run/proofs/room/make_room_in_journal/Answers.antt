use Rattle.std.proofs.Common.{refl}
use Rattle.core_run.proofs.Ready.{entries_kept}
use Rattle.core_run.proofs.room.make_room_in_journal.Goals as goal

pub returns-clause-kept : goal.returns-clause-kept
returns-clause-kept c =
    (let k = c.requires in
    let a = k.agrees in
    entries_kept c.args.inside.now _ k
    (record { runs = a.runs; state = a.state; tables = a.tables; owed = a.owed; filed = a.filed })
    c.reserve.ensures.items c.reserve.ensures.kept refl)
