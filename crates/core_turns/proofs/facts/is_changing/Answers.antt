use Rattle.std.proofs.Common.{◌∙◌, ◌==◌, ◌&&◌, sym, refl}
use Rattle.history_standing.specs.Situations.{is_unfinished}
use Rattle.core_standing.specs.Seen.{forgotten}
use Rattle.core_standing.proofs.Behind.{any_behind, second_fails}
use Rattle.core_turns.proofs.facts.is_changing.Goals as goal

pub returns : goal.returns
returns c =
    (let s = c.args.standing.now in
    c.is_any_changing.ensures
    ∙ sym (any_behind (λ a. (a.adapter == c.args.adapter) && is_unfinished c.args.config.now a)
    (second_fails (forgotten.adapter == c.args.adapter) _ refl) s.activations.forgotten s.activations.kept))
