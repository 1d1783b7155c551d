use Rattle.std.proofs.Common.{◌∙◌, List, ap, sym}
use Rattle.std.specs.List.{list_any}
use Rattle.history_standing.specs.declared.node.Node.{Node}
use Rattle.core_standing.specs.Seen.{seen}
use Rattle.core_standing.proofs.Dropping.{all_stay}
use Rattle.core_standing.proofs.settling.drop_gone.Goals as goal

pub returns-else-is_any_dying : goal.returns-else-is_any_dying
returns-else-is_any_dying c =
    let s = c.args.standing.now in
    ap (λ (ns : List Node). record (seen s) { nodes = ns })
    (all_stay c.args.config.now (seen s) s.nodes.items
    (ap (list_any (λ (n : Node). n.dying)) (sym c.deref.ensures.value) ∙ sym c.is_any_dying.ensures ∙ c.if-is_any_dying.false))
