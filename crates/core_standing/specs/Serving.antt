-- A request is admitted to an activation that serves it.
use Rattle.std.specs.Prelude.{ℕ, List, ◌∷◌}
use Rattle.poa_base.specs.declared.Config.{Config}
use Rattle.poa_base.specs.declared.Entry.{Entry}
use Rattle.poa_base.specs.declared.Entry.TheVariants.{Admit}
use Rattle.poa_base.specs.declared.Verdict.TheVariants.{Serve}
use Rattle.history_standing.specs.Standings.{Standing}
use Rattle.poa_history.specs.Alone.{IsGivenAlone}
use Rattle.poa_history.specs.Bounds.{IsWithinLimits}
use Rattle.poa_history.specs.Legal.{IsLegal}
use Rattle.poa_history.specs.Sound.{IsGiven}
use Rattle.core_standing.specs.Kept.{StandingAgrees}

-- what holds of each legal history in which the request of this arrival is admitted next to the activation of this number, by a
-- worker, and after which this is kept
abbrev pub WhereItServes : ℕ → ℕ → Standing → (Config → ℕ → List Entry → ℕ → Type 0) → Type 0
WhereItServes r n kept says =
    (c : Config) (run limit : ℕ) (past : List Entry) (w : ℕ) → IsGiven c run → IsGivenAlone c run → IsWithinLimits c limit
    → IsLegal c run limit (Admit w r (Serve n) ∷ past) → StandingAgrees c run past kept → says c run past w
