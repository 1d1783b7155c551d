-- The servant of a request that is to run.
use Rattle.std.specs.Prelude.{◌≡◌, ℕ, List, Some}
use Rattle.poa_base.specs.declared.Config.{Config}
use Rattle.poa_base.specs.declared.Entry.{Entry}
use Rattle.poa_base.specs.declared.Sid.{Sid}
use Rattle.poa_history.specs.States.{servant_run}
use Rattle.history_standing.specs.declared.stage.Stage.TheVariants.{Serving}

-- a worker that serves the arrival has a servant to run
abbrev pub HasServant : Config → ℕ → List Entry → ℕ → Type 0
HasServant c run h r = (s : Sid) × (servant_run c run h (Serving r) ≡ Some s)
