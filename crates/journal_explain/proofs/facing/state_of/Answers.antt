use Rattle.std.proofs.Common.{refl, ◌∙◌}
use Rattle.journal_explain.proofs.Standing.{set_as}
use Rattle.journal_explain.proofs.facing.state_of.Goals as goal

pub returns : goal.returns
returns c =
    let life = c.args.run.now in
    let s = c.state-state.result.now in
    c.manager_state-found.ensures
    ∙ (set_as life s life.config life.run refl refl c.state-state.ensures.state).states c.args.manager
