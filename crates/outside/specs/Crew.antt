-- What contracts see of a crew.
use Rattle.std.specs.Prelude.{ℕ}

-- how many jobs a crew handed back
pub record Crew : Type 0 where
  pub faults : ℕ
