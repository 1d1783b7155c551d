use Rattle.std.proofs.Common.{◌<◌}
use Rattle.session_laws.specs.Calls.{Each, IsSaid}
use Rattle.history_standing.specs.Arrivals.{connections}
use Rattle.replay_run.specs.Lines.{reply_line}
use Rattle.replay_run.specs.Collecting.{CollectsAll}
use Rattle.replay_run.specs.Effects.{Works}
use Rattle.replay_run.proofs.PlayedOnward.{Onward}
use Rattle.replay_run.proofs.player.Player.collect_all.Given as goal

-- the replies so far are the front of all
abbrev pub invariant-loop : goal.invariant-loop
invariant-loop l = record {
  collects : Works (Onward (CollectsAll (reply_line l.name) l.conn)) l.fn.self l.self;
  entered : l.conn < connections l.self.core.history;
  said : Each IsSaid l.self.core.history;
}
