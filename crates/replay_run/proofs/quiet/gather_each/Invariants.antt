use Rattle.session_laws.specs.Calls.{Each, IsSaid}
use Rattle.replay_run.proofs.Listed.{Ahead}
use Rattle.replay_run.specs.Keeping.{AllEntered}
use Rattle.replay_run.specs.Quiet.{GathersEach, PutsBehind}
use Rattle.replay_run.proofs.quiet.gather_each.Given as goal

-- the connections so far are the front of all
abbrev pub invariant-loop-channel : goal.invariant-loop-channel
invariant-loop-channel l = record {
  gathers : PutsBehind (Ahead GathersEach l.channels l.channel-index) l.fn.out.items l.out.items l.fn.core l.core;
  entered : AllEntered l.channels l.core.history;
  said : Each IsSaid l.core.history;
}
