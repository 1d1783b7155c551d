-- An adapter that is known to be changing.
use Rattle.std.specs.Prelude.{◌≡◌, ℕ, true, Option, Some}
use Rattle.poa_base.specs.declared.Config.{Config}
use Rattle.history_standing.specs.Situations.{is_changing}
use Rattle.history_standing.specs.Standings.{Standing}

-- where one is named, it is changing
abbrev pub IsBusy : Config → Standing → Option ℕ → Type 0
IsBusy c s busy = (k : ℕ) → busy ≡ Some k → is_changing c s.activations k ≡ true
