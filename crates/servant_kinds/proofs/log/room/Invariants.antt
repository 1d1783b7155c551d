use Rattle.std.proofs.Common.{◌≡◌, take}
use Rattle.servant_kinds.specs.Log.{room_of}
use Rattle.servant_kinds.proofs.log.room.Given as goal

-- the room beside the entries so far
abbrev pub invariant-loop-entry : goal.invariant-loop-entry
invariant-loop-entry l = l.room ≡ room_of (take l.entry-index l.entry-items)
