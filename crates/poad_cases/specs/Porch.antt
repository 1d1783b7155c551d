-- What a door in memory is seen as.
use Rattle.std.specs.Prelude.{ℕ}
use Rattle.outside.specs.Link.{Shown}
use Rattle.outside.specs.Accepting.{Standing}

-- the links left, out and given back, and how many calls of next failed
pub record Porch : Type 0 where
  pub standing : Standing Shown
  pub faults : ℕ
  pub ends : ℕ
