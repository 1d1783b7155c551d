-- What comes of a call that isn't taken.
use Rattle.std.specs.Prelude.{◌≡◌, ℕ, Some}
use Rattle.poa_history.specs.Limits.{filled_at}
use Rattle.poa_history.specs.Life.{Life}
use Rattle.poa_core.specs.Answers.{filled_by}
use Rattle.poa_core.specs.declared.arrive_fault.ArriveFault.{ArriveFault}
use Rattle.poa_core.specs.declared.arrive_fault.ArriveFault.TheVariants.{Limit, WantMemory}

-- it fills the run
abbrev pub Refuses : ℕ → ℕ → Life → ArriveFault → Life → Type 0
Refuses conn size old (Limit calls bytes) new = (new ≡ filled_by conn size old) × (filled_at new.history ≡ Some (calls, bytes))
Refuses conn size old WantMemory new = ⊥
