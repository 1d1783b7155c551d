use Rattle.std.proofs.Common.{take}
use Rattle.replay_run.specs.Playing.{AreFresh}
use Rattle.replay_run.proofs.channel.channels_of.Given as goal

-- the connections of the names so far
abbrev pub invariant-loop-name : goal.invariant-loop-name
invariant-loop-name l = AreFresh (take l.name-index l.names) l.all.items
