use Rattle.std.proofs.Common.{refl, ◌∙◌}
use Rattle.journal_explain.proofs.Standing.{stands_as}
use Rattle.journal_explain.proofs.activity.count_begun.Goals as goal

pub returns : goal.returns
returns c =
    let life = c.args.run.now in
    let s = c.state-state.result.now in
    c.in_ok-count.ensures.begun
    ∙ (stands_as life s life.config life.run refl refl c.state-state.ensures.state c.keeps_laws.ensures.runs).begun
