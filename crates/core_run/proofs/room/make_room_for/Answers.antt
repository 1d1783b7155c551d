use Rattle.std.proofs.Common.{sym, ◌∙◌}
use Rattle.core_run.proofs.Ready.{ending_room}
use Rattle.core_run.proofs.room.make_room_for.Goals as goal

pub returns-then-is_ending-clause-room : goal.returns-then-is_ending-clause-room
returns-then-is_ending-clause-room c =
    ending_room c.args.entry.now c.args.inside.now c.requires.kept c.requires.follows (sym c.is_ending.ensures ∙ c.if-is_ending.true)
