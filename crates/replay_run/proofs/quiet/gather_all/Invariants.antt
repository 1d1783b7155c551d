use Rattle.std.proofs.Common.{◌<◌}
use Rattle.history_standing.specs.Arrivals.{connections}
use Rattle.session_laws.specs.Calls.{Each, IsSaid}
use Rattle.replay_run.specs.Collecting.{CollectsAll}
use Rattle.replay_run.proofs.PlayedOnward.{Onward}
use Rattle.replay_run.specs.Quiet.{PutsBehind, message_of}
use Rattle.replay_run.proofs.quiet.gather_all.Given as goal

-- the messages so far are the front of all
abbrev pub invariant-loop : goal.invariant-loop
invariant-loop l = record {
  gathers : PutsBehind (Onward (CollectsAll message_of l.conn)) l.fn.out.items l.out.items l.fn.core l.core;
  entered : l.conn < connections l.core.history;
  said : Each IsSaid l.core.history;
}
