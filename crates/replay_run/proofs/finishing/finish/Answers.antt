use Rattle.std.proofs.Common.{refl}
use Rattle.replay_run.specs.Working.{Rests, Then}
use Rattle.replay_run.specs.Playing.{CollectsEach}
use Rattle.replay_run.proofs.PlayedOnward.{works_join}
use Rattle.replay_run.proofs.Same.{still_settles}
use Rattle.replay_run.proofs.Listed.{entered_still}
use Rattle.replay_run.proofs.Seats.{said_still}
use Rattle.replay_run.proofs.finishing.finish.Goals as goal

pub collect_each-requires-clause-entered : goal.collect_each-requires-clause-entered
collect_each-requires-clause-entered c = entered_still c.args.channels.now c.args.player.now.core c.settle.new.self.core
    (still_settles c.args.player.now.core c.in_ok-settle.ensures.text c.settle.new.self.core c.in_ok-settle.ensures.does)
    (λ i n a at is. (c.requires.seated i a at).entered n is)

pub collect_each-requires-clause-said : goal.collect_each-requires-clause-said
collect_each-requires-clause-said c = said_still c.args.player.now.core c.settle.new.self.core
    (still_settles c.args.player.now.core c.in_ok-settle.ensures.text c.settle.new.self.core c.in_ok-settle.ensures.does) c.requires.said

pub returns : goal.returns
returns c =
    works_join Rests (CollectsEach c.args.channels.now)
    (Then Rests (CollectsEach c.args.channels.now)) c.args.player.now c.settle.new.self c.collect_each.new.player
    (λ s t p q. record { between = c.settle.new.self.core; front = s; rest = t; first = p; second = q; joined = refl }) c.in_ok-settle.ensures
    c.in_ok-collect_each.ensures
