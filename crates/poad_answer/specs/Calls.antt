-- Calls served one behind the other, each by the state that those before it left.
use Rattle.std.specs.Prelude.{◌≡◌, ℕ, List, [], ◌∷◌, ◌++◌}
use Rattle.poa_base.specs.declared.Call.{Call}
use Rattle.session_laws.specs.Hearing.{Heard}

-- calls served in order from the one state to the other, with all their replies; `Gives` says what a call of a size gives
abbrev pub Serves : {State : Type 0} → (State → Call → ℕ → List ℕ → State → Type 0) → State → List Heard → List ℕ → State → Type 0
Serves Gives state [] replies after = (replies ≡ []) × (after ≡ state)
Serves {State} Gives state (heard ∷ calls) replies after =
    (reply : List ℕ)
    × ((between : State)
    × ((rest : List ℕ) × (Gives state heard.call heard.size reply between × Serves Gives between calls rest after × (replies ≡ reply ++ rest))))
