-- What comes of asking a call.
use Rattle.std.specs.Prelude.{ℕ, Option, Some, None}
use Rattle.history_standing.specs.Arrivals.{arrivals}
use Rattle.poa_history.specs.Verdicts.{verdict}
use Rattle.poa_history.specs.Waiting.{is_waiting}
use Rattle.core_turns.specs.declared.known.Known.{Known}
use Rattle.core_turns.specs.declared.known.Asked.{Asked}
use Rattle.core_turns.specs.declared.known.Asked.TheVariants.{Another, Nobody, Ready}
use Rattle.core_arrivals.specs.Firsts.{IsFirst}
use Rattle.core_turns.specs.Told.{history}

-- nobody is to be asked where each that waits is held; one that isn't held is the first of them
abbrev pub IsAnswer : Known → ℕ → Asked → Type 0
IsAnswer k w Another = Unit {0}
IsAnswer k w Nobody = IsFirst (is_waiting (history k)) (λ r. verdict k.config.now k.run (history k) r w) (arrivals (history k)) None
IsAnswer k w (Ready r v) =
    IsFirst (is_waiting (history k)) (λ q. verdict k.config.now k.run (history k) q w) (arrivals (history k)) (Some (r, v))
