use Rattle.std.proofs.Common.{◌∙◌, ◌==◌, ◌&&◌, sym, refl}
use Rattle.history_standing.specs.Standings as stands
use Rattle.core_standing.specs.Seen.{forgotten}
use Rattle.core_standing.proofs.Behind.{any_behind, second_fails}
use Rattle.core_standing.proofs.searches.is_in_map.Goals as goal

pub returns : goal.returns
returns c =
    (let s = c.args.standing.now in
    c.is_any_by.ensures
    ∙ sym (any_behind (λ a. (a.adapter == c.args.adapter) && (stands.is_mapped a && stands.has_servant c.args.servant a))
    (second_fails (forgotten.adapter == c.args.adapter) _ refl) s.activations.forgotten s.activations.kept))
