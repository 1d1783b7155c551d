use Rattle.core_run.proofs.Ready.{desk_kept}
use Rattle.core_run.proofs.room.make_room_for_call.Goals as goal

pub make_room-requires : goal.make_room-requires
make_room-requires c = desk_kept c.args.inside.now c.reserve.new.self c.requires c.reserve.ensures.owing c.reserve.ensures.files
