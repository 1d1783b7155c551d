use Rattle.std.proofs.Common.{refl}
use Rattle.replay_run.specs.Keeping.{knows}
use Rattle.replay_run.proofs.channel.Channel.meet.Goals as goal

pub returns-in-Some : goal.returns-in-Some
returns-in-Some c = knows c.in-Some.conn refl c.in-Some.is refl refl
