use Rattle.std.proofs.Common.{◌∙◌, sym, ap}
use Rattle.core_standing.specs.Seen.{seen}
use Rattle.core_state.specs.Steps as steps
use Rattle.core_state.proofs.etherealizing.removed.Goals as goal

pub returns-in-Removing : goal.returns-in-Removing
returns-in-Removing c = c.removed_of.ensures
    ∙ (ap steps.removed_of c.activation_numbered.ensures ∙ ap (steps.removed (seen c.args.standing.now)) (sym c.in-Removing.is))
