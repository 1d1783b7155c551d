use Rattle.std.proofs.Common.{◌∙◌, not, ◌&&◌, ◌||◌, ◌==◌, sym, refl}
use Rattle.std.specs.Prelude.{nat_lt}
use Rattle.history_standing.specs.Ends as ends
use Rattle.history_standing.specs.Templates as configured
use Rattle.core_standing.proofs.Behind.{all_behind}
use Rattle.core_standing.proofs.orders.are_ended.Goals as goal

pub returns : goal.returns
returns c =
    (let s = c.args.standing.now in
    let config = c.args.config.now in
    c.all_ended.ensures
    ∙ sym (all_behind
    (λ a. ends.is_over config a ||
    (not (nat_lt a.number c.args.begun) || not (configured.has_activator config a.path && (configured.manager_at config a.path == c.args.manager)))) refl
    s.activations.forgotten s.activations.kept))
