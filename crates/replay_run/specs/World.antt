-- What stands between two lines of a script.
use Rattle.std.specs.Prelude.{List, Option}
use Rattle.poa_history.specs.Life.{Life}
use Rattle.replay_run.specs.declared.channel.Channel.{Channel}
use Rattle.replay_run.specs.declared.full.Full.{Full}

pub record World : Type 0 where
  pub life : Life
  -- the connections of the script, in the order of their first lines
  pub channels : List Channel
  -- how many calls, and bytes of them, there were when a connection couldn't enter for the first time
  pub turned_away : Option Full

-- one connection at the adapter
pub record Talk : Type 0 where
  pub life : Life
  pub channel : Channel
