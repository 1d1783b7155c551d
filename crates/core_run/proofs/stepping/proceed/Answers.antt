use Rattle.std.proofs.Common.{◌≡◌, Some, refl, sym, ◌∙◌}
use Rattle.poa_base.specs.declared.Entry.TheVariants.{Run, Done}
use Rattle.poa_history.specs.Turns.{turn}
use Rattle.core_run.specs.Agrees.{history}
use Rattle.core_run.proofs.NextTurn.{done_next, run_next}
use Rattle.core_run.proofs.Proceeding.{follows_next}
use Rattle.core_run.proofs.stepping.proceed.Goals as goal

pub run-requires-clause-follows : goal.run-requires-clause-follows
run-requires-clause-follows c =
    (let i = c.args.inside.now in
    let stage = c.stage.ensures.begun (history i) c.requires.worker c.requires.kept.agrees.tables.workers in
    follows_next i c.args.worker (Run c.args.worker) c.requires.kept c.requires.worker c.requires.going
    (sym (run_next i.config i.run (history i) c.args.worker _ (sym c.in-Serving.is ∙ stage))))

pub end-requires-clause-follows : goal.end-requires-clause-follows
end-requires-clause-follows c =
    (let i = c.args.inside.now in
    let stage = c.stage.ensures.begun (history i) c.requires.worker c.requires.kept.agrees.tables.workers in
    follows_next i c.args.worker (Done c.args.worker) c.requires.kept c.requires.worker c.requires.going
    (sym (done_next i.config i.run (history i) c.args.worker _ (sym c.in-Ran.is ∙ stage))))
