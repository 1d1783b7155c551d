use Rattle.poa_history.specs.Legal.{IsOpen}
use Rattle.replay_run.specs.Reading.{ReadsOn}
use Rattle.replay_run.specs.Keeping.{Tells}
use Rattle.replay_run.proofs.PlayedOnward.{Onward}
use Rattle.replay_run.proofs.channel.Channel.read_on.Given as goal

-- what was read so far is the front of what is read
abbrev pub invariant-loop : goal.invariant-loop
invariant-loop l = record {
  reads : Tells (Onward (ReadsOn l.conn)) l.fn.player l.player l.fn.self l.self;
  open_ : IsOpen l.player.core.history l.conn;
}
