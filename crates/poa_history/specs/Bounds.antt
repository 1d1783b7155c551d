-- How much a run makes.
use Rattle.std.specs.Prelude.{ℕ, ◌+◌, ◌≤◌, List, length}
use Rattle.poa_base.specs.declared.limits.TheConstants.{CALLS, OBJECTS}
use Rattle.poa_base.specs.declared.Config.{Config}
use Rattle.poa_base.specs.declared.Entry.{Entry}
use Rattle.history_standing.specs.Arrivals.{arrivals}
use Rattle.history_standing.specs.Changes.{standing}

-- the limits on objects and on arrivals that bear on how many ids are made
pub record IsWithinLimits (c : Config) (limit : ℕ) : Type 0 where
  pub objects : length c.objects ≤ OBJECTS
  pub arrivals : limit ≤ CALLS

-- an object or a command makes one id at most; the first `shutdown` is taken also at the limit
pub record HasFewIds (c : Config) (run limit : ℕ) (h : List Entry) : Type 0 where
  pub made : (standing c run h).made ≤ length c.objects + arrivals h
  pub arrived : arrivals h ≤ limit + 1
