use Rattle.std.proofs.Common.{rules, take}
use Rattle.replay_run.proofs.Listed.{fresh_more, fresh_at, next_name}
use Rattle.replay_run.proofs.channel.channels_of.Goals as goal

pub loop-name-preserved : goal.loop-name-preserved
loop-name-preserved c =
    next_name c.args.names.now c.loop-name.name-index c.name-item.result _ _ _ c.loop-name-test.true c.name-item.is c.in_ok-push.ensures.items
    (fresh_more (take c.loop-name.name-index c.args.names.now) c.loop-name.all.items c.name-item.result c.channel_of.result c.loop-name.invariant
    (fresh_at c.in_ok-clone.field-0 c.name-item.result c.channel_of.result (search rules) c.channel_of.ensures))
