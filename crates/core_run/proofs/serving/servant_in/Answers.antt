use Rattle.std.proofs.Common.{◌≡◌, reverse, IfOk, sym, ap, subst, ◌∙◌}
use Rattle.history_standing.specs.declared.stage.Stage.TheVariants.{Serving}
use Rattle.history_standing.specs.Stages.{arrival_in, stage}
use Rattle.poa_history.specs.States.{servant_by, servant_run}
use Rattle.core_standing.specs.Seen.{seen}
use Rattle.core_run.proofs.Admitted.{still_admitted}
use Rattle.core_run.proofs.serving.servant_in.Goals as goal

pub returns-in-Serving-clause-servant : goal.returns-in-Serving-clause-servant
returns-in-Serving-clause-servant c run limit worker runs answers at =
    (let serving : stage (reverse c.args.entries.now.items) worker ≡ Serving c.in-Serving.arrival = sym at ∙ c.in-Serving.is in
    let same = c.last_admit.ensures
    ∙ still_admitted c.args.config.now run limit (reverse c.args.entries.now.items) worker c.in-Serving.arrival runs (ap arrival_in serving) in
    subst (λ x. IfOk c.servant_of.result (λ servant. servant ≡ x))
    (ap (servant_by c.args.config.now (seen c.args.standing.now)) same ∙ answers.served worker c.in-Serving.arrival serving
    ∙ sym (ap (servant_run c.args.config.now run (reverse c.args.entries.now.items)) c.in-Serving.is)) c.servant_of.ensures)
