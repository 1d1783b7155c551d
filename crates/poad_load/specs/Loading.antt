-- What `load N START` plays: as `replay` would play its steps, with what they would print left out.
use Rattle.std.specs.Prelude.{◌≡◌, ℕ, zero, suc, List, ◌++◌}
use Rattle.poa_base.specs.declared.Config.{Config}
use Rattle.replay_script.specs.declared.Step.TheVariants as step
use Rattle.replay_run.specs.Working.{Rests, Stays, Then}
use Rattle.replay_run.specs.World.{World}
use Rattle.replay_run.specs.Playing.{IsOpening, OnLife, Plays}
use Rattle.replay_run.specs.Quiet.{Gathers, Quietly}
use Rattle.poad_load.specs.Schedule.{call_step, draw, names, next_id, shutdown, turns, worker}

-- so many connections enter, by their first lines
abbrev pub EntersFirst : ℕ → World → List ℕ → World → Type 0
EntersFirst zero = Stays
EntersFirst (suc place) = Then (EntersFirst place) (Plays (step.Collect place))

-- so many turns of a worker
abbrev pub TakesTurns : ℕ → ℕ → World → List ℕ → World → Type 0
TakesTurns zero w = Stays
TakesTurns (suc k) w = Then (TakesTurns k w) (Plays (step.Step w))

-- a call comes, and then a worker takes turns
abbrev pub PlaysDraw : ℕ → ℕ → World → List ℕ → World → Type 0
PlaysDraw id d = Then (Plays (call_step id d)) (TakesTurns (turns d) (worker d))

-- so many draws one behind the other
abbrev pub PlaysDraws : ℕ → ℕ → World → List ℕ → World → Type 0
PlaysDraws start zero = Stays
PlaysDraws start (suc i) = Then (PlaysDraws start i) (PlaysDraw (next_id start i) (draw start i))

-- all workers run until none has anything to do, and then the replies are collected: these are the messages among them
pub record Finishes (before : World) (messages : List ℕ) (after : World) : Type 0 where
  pub rested : World
  pub rests : Quietly (OnLife Rests) before rested
  pub gathers : Gathers rested messages after

-- so it goes at the end, and once more behind the `shutdown`
pub record Ends (before : World) (messages : List ℕ) (after : World) : Type 0 where
  pub finished : World
  pub stopped : World
  pub front : List ℕ
  pub rest : List ℕ
  pub finishes : Finishes before front finished
  pub stops : Quietly (Plays shutdown) finished stopped
  pub ends : Finishes stopped rest after
  pub joined : messages ≡ front ++ rest

-- a load: the connections enter, the draws are played, and the run comes to its end
pub record Loads (c : Config) (n start : ℕ) (messages : List ℕ) (last : World) : Type 0 where
  pub opening : World
  pub entered : World
  pub drawn : World
  pub opens : IsOpening c 4000000 names opening
  pub enters : Quietly (EntersFirst 5) opening entered
  pub draws : Quietly (PlaysDraws start n) entered drawn
  pub ends : Ends drawn messages last
