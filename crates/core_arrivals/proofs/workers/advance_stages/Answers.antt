use Rattle.std.proofs.Common.{◌∷◌, sym, subst, ◌∙◌}
use Rattle.core_arrivals.specs.Begun.{StagesAgree}
use Rattle.core_arrivals.proofs.Staging.{stages_set}
use Rattle.core_arrivals.proofs.workers.advance_stages.Goals as goal

pub returns-in-Some-clause-stages : goal.returns-in-Some-clause-stages
returns-in-Some-clause-stages c = λ past are.
    subst (StagesAgree (c.args.entry.now ∷ past)) (sym c.set_stage.ensures)
    (stages_set c.args.entry.now past c.args.workers.now.stages.items c.in-Some.worker c.stage_after-begun.result (sym c.in-Some.ensures)
    (λ low. c.stage_after-begun.ensures past (c.stage.ensures.there ∙ are.are c.in-Some.worker low)) are)
