use Rattle.std.proofs.Common.{◌∙◌}
use Rattle.journal_explain.proofs.Living.{serving_is}
use Rattle.journal_explain.proofs.activity.is_serving.Goals as goal

pub returns : goal.returns
returns c =
    c.is_any_active-active.ensures
    ∙ serving_is c.args.run.now c.state-state.result.now c.state-state.ensures.state c.keeps_laws.ensures.runs c.numbers.ensures.alone
    c.args.number _ c.numbered.ensures
