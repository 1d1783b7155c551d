use Rattle.replay_run.specs.Working.{Rests}
use Rattle.replay_run.specs.Effects.{Works}
use Rattle.replay_run.proofs.PlayedOnward.{Onward}
use Rattle.replay_run.proofs.player.Player.settle.Given as goal

-- the rounds so far are the front of all
abbrev pub invariant-loop : goal.invariant-loop
invariant-loop l = Works (Onward Rests) l.fn.self l.self
