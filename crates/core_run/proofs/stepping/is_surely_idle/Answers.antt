use Rattle.std.proofs.Common.{sym, ◌∙◌}
use Rattle.core_run.specs.Agrees.{history}
use Rattle.core_run.proofs.Idling.{idle_next}
use Rattle.core_run.proofs.stepping.is_surely_idle.Goals as goal

pub returns-then-count-eq0 : goal.returns-then-count-eq0
returns-then-count-eq0 c =
    (let i = c.args.inside.now in
    let h = history i in
    let tables = c.requires.kept.agrees.tables in
    record {
      none = λ still.
          idle_next i c.args.worker c.requires.kept
          (sym (c.stage.ensures.begun h c.requires.worker tables.workers) ∙ c.in-Free.is)
          (sym (c.count.ensures h tables.queue) ∙ c.if-count-eq0.true)
          (sym c.is_still.ensures ∙ still);
    })
