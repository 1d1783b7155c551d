use Rattle.std.proofs.Common.{◌∙◌, not, ◌&&◌, ap, sym, refl}
use Rattle.std.specs.List.{list_any}
use Rattle.history_standing.specs.Nodes.{stands_under}
use Rattle.history_standing.specs.Ends as ends
use Rattle.core_standing.proofs.Behind.{any_behind}
use Rattle.core_standing.proofs.ends.is_lived_under.Goals as goal

pub returns : goal.returns
returns c =
    (let s = c.args.standing.now in
    c.are_lived_under.ensures
    ∙ ap (λ ns. list_any (λ a. not (ends.is_over c.args.config.now a) && stands_under ns c.args.path.now a.adapter) s.activations.kept) c.deref.ensures.value
    ∙ sym (any_behind (λ a. not (ends.is_over c.args.config.now a) && stands_under s.nodes.items c.args.path.now a.adapter) refl s.activations.forgotten
    s.activations.kept))
