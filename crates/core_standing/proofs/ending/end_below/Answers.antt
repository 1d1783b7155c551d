use Rattle.std.proofs.Common.{◌∙◌, ap, if◌then◌else◌, map}
use Rattle.std.proofs.lemmas.Result.{on_ok_weaker}
use Rattle.history_standing.specs.Nodes.{stands_under}
use Rattle.history_standing.specs.Changes.{ended_by_destroy}
use Rattle.core_standing.proofs.Still.{changed_each, still_below}
use Rattle.core_standing.proofs.ending.end_below.Goals as goal

pub returns-clause-ok : goal.returns-clause-ok
returns-clause-ok c =
    (let s = c.args.standing.now in
    on_ok_weaker c.end_below.result
    (λ is. changed_each s _ (λ a. if stands_under s.nodes.items c.args.path.now a.adapter then ended_by_destroy c.args.etherealize a else a)
    (still_below s.nodes.items c.args.path.now c.args.etherealize)
    (is ∙ ap (λ ns. record s.activations
    { kept = map (λ a. if stands_under ns c.args.path.now a.adapter then ended_by_destroy c.args.etherealize a else a) s.activations.kept })
    c.deref.ensures.value))
    c.end_below.ensures.ok)
