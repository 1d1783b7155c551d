use Rattle.replay_run.proofs.Listed.{Ahead}
use Rattle.replay_run.specs.Playing.{CollectsEach}
use Rattle.session_laws.specs.Calls.{Each, IsSaid}
use Rattle.replay_run.specs.Keeping.{AllEntered}
use Rattle.replay_run.specs.Effects.{Works}
use Rattle.replay_run.proofs.finishing.collect_each.Given as goal

-- the connections so far are the front of all
abbrev pub invariant-loop-channel : goal.invariant-loop-channel
invariant-loop-channel l = record {
  collects : Works (Ahead CollectsEach l.channels l.channel-index) l.fn.player l.player;
  entered : AllEntered l.channels l.player.core.history;
  said : Each IsSaid l.player.core.history;
}
