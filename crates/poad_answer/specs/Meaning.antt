-- What answering the calls of a stream means, whoever answers.
use Rattle.std.specs.Prelude.{◌≡◌, ℕ, List, ◌++◌, Result, Ok, Err}
use Rattle.poa_base.specs.declared.Call.{Call}
use Rattle.poa_core.specs.declared.ArriveFault.{ArriveFault}
use Rattle.poa_core.specs.declared.ArriveFault.TheVariants.{Limit, WantMemory}

-- what an answer means to one who answers by such a state
pub record Meaning (A : Type 0) : Type 1 where
  -- what holds between two calls
  pub fits : A → Type 0
  -- a call of this size gives these bytes, and leaves this
  pub gives : A → Call → ℕ → List ℕ → A → Type 0
  -- a call of this size is refused: so many calls, and bytes of them, had arrived
  pub refuses : A → Call → ℕ → ℕ → ℕ → Type 0

-- bytes stand behind those that stood there, and with them this came
pub record GivesBehind {A : Type 0} (Gives : List ℕ → A → Type 0) (new : A) (before after : List ℕ) : Type 0 where
  pub reply : List ℕ
  pub gives : Gives reply new
  pub behind : after ≡ before ++ reply

-- a call was answered, and its reply stands behind those that stood there; or it is refused, or memory was wanting
abbrev pub Answers : {A : Type 0} → Meaning A → Result (Unit {0}) ArriveFault → Call → ℕ → A → A → List ℕ → List ℕ → Type 0
Answers m (Ok done) call size old new before after = GivesBehind (m.gives old call size) new before after
Answers m (Err (Limit calls bytes)) call size old new before after = m.refuses old call size calls bytes × (after ≡ before)
Answers m (Err WantMemory) call size old new before after = after ≡ before
