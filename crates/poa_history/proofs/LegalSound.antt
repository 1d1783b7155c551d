-- What stands after a legal history is sound.
use Rattle.std.specs.Prelude.{ℕ, List, [], ◌∷◌}
use Rattle.poa_base.specs.declared.Config.{Config}
use Rattle.poa_base.specs.declared.Entry.{Entry}
use Rattle.history_standing.specs.Changes.{standing}
use Rattle.poa_history.specs.Legal.{IsLegal}
use Rattle.poa_history.specs.Sound.{IsSound, IsGiven}
use Rattle.poa_history.specs.Bounds.{IsWithinLimits}
use Rattle.poa_history.proofs.IdsFew.{has_ordinal}
use Rattle.poa_history.proofs.StepMoves.{step_sound}

pub legal_sound : (c : Config) (run limit : ℕ) (h : List Entry) → IsGiven c run → IsWithinLimits c limit → IsLegal c run limit h
    → IsSound c run (standing c run h)
legal_sound c run limit [] given within legal = given.opens
legal_sound c run limit (e ∷ past) given within legal =
    step_sound c run past (legal_sound c run limit past given within legal.1) given.numbered
    (has_ordinal c run limit within past legal.1) given.implicit limit e legal.0
