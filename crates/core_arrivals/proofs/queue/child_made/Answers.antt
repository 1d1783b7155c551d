use Rattle.std.proofs.Common.{◌≡◌, Some, None, sym, ap, ◌∙◌}
use Rattle.poa_base.specs.declared.Attempt.TheVariants.{Yes}
use Rattle.history_standing.specs.declared.stage.Stage.TheVariants.{Trying}
use Rattle.history_standing.specs.Arrivals.{call_of}
use Rattle.history_standing.specs.Stages.{arrival_in}
use Rattle.poa_history.proofs.TurnTells.{trial_is}
use Rattle.core_arrivals.proofs.queue.child_made.Goals as goal

pub returns-in-Some : goal.returns-in-Some
returns-in-Some c = λ config run limit past w n may manned at called is.
    (let trial = trial_is config run past w (Yes n) may in
    let both : Some c.in-Some.arrival ≡ Some trial.arrival = sym c.in-Some.is ∙ (at ∙ ap arrival_in trial.begun) in
    let same : trial.arrival ≡ c.in-Some.arrival = cc in
    c.put_back.ensures config run past w n manned (trial.begun ∙ ap Trying same)
    (called ∙ (ap (λ b. elim (arrival_in b) [ Some r ↦ call_of past r | None ↦ None ]) trial.begun ∙ ap (call_of past) same)) is)
