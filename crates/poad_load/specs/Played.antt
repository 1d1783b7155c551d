-- What the parts of a load do to a play. These words are for the contracts inside of this crate.
use Rattle.std.specs.Prelude.{◌≡◌, ℕ, List}
use Rattle.poa_base.specs.Store.{Slots}
use Rattle.poa_history.specs.Life.{Life}
use Rattle.poa_core.specs.Stored.{Stores}
use Rattle.replay_run.specs.World.{World}
use Rattle.replay_run.specs.Quiet.{HasGivens, IsInPlay, PutsBehind, Quietly, world_of}
use Rattle.replay_run.specs.declared.QuietPlay.{QuietPlay}
use Rattle.poad_load.specs.Counts.{load_text}

-- this was played, whatever it would print, and the play goes on
pub record Played (P : World → List ℕ → World → Type 0) (old new : QuietPlay) : Type 0 where
  pub does : Quietly P (world_of old) (world_of new)
  pub givens : HasGivens (world_of old).life (world_of new).life
  pub in_play : IsInPlay new

-- the same, and these messages came behind others
pub record Collected (P : World → List ℕ → World → Type 0) (out_old out_new : List ℕ) (old new : QuietPlay) : Type 0 where
  pub puts : PutsBehind P out_old out_new (world_of old) (world_of new)
  pub givens : HasGivens (world_of old).life (world_of new).life
  pub in_play : IsInPlay new

-- the lines of so many calls, of a run and of its messages
pub record Tells (n : ℕ) (life : Life) (messages text : List ℕ) : Type 0 where
  pub slots : Slots
  pub stores : Stores life slots
  pub told : text ≡ load_text n life.history messages slots
