-- The next entry of a worker comes behind the history.
use Rattle.std.proofs.Common.{◌≡◌, ℕ, ◌<◌, false, ◌∷◌, Some}
use Rattle.poa_base.specs.declared.Entry.{Entry}
use Rattle.history_standing.specs.Stages.{is_abandoned}
use Rattle.poa_history.specs.Runs.{IsRun}
use Rattle.poa_history.specs.Turns.{turn}
use Rattle.core_run.specs.declared.inside.Inside.{Inside}
use Rattle.core_run.specs.Agrees.{history}
use Rattle.core_run.specs.Kept.{IsKept}
use Rattle.core_run.proofs.NextTurn.{may_follow_next}

pub follows_next : (i : Inside) (w : ℕ) (e : Entry) → IsKept i → w < 16 → is_abandoned (history i) w ≡ false → turn i.config i.run (history i) w ≡ Some e
    → IsRun i.config i.run i.limit (e ∷ history i)
follows_next i w e kept below going next =
    (let runs = kept.agrees.runs in record {
      accepted = runs.accepted;
      numbered = runs.numbered;
      limited = runs.limited;
      legal = (may_follow_next i.config i.run i.limit (history i) w e next below going, runs.legal);
    })
