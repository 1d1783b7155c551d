-- The runs of an accepted configuration.
use Rattle.std.specs.Prelude.{ℕ, ◌^◌, ◌<◌, ◌≤◌, List}
use Rattle.poa_base.specs.declared.limits.TheConstants.{CALLS}
use Rattle.poa_base.specs.declared.Config.{Config}
use Rattle.poa_base.specs.declared.Entry.{Entry}
use Rattle.poa_policy.specs.Kept.{KeepsRules}
use Rattle.poa_history.specs.Legal.{IsLegal}

-- a legal history of a run, whose number has 32 bits, with a limit on the arrivals
pub record IsRun (c : Config) (run limit : ℕ) (h : List Entry) : Type 0 where
  pub accepted : KeepsRules c
  pub numbered : run < 2 ^ 32
  pub limited : limit ≤ CALLS
  pub legal : IsLegal c run limit h
