use Rattle.std.proofs.Common.{◌==◌, ◌&&◌, ◌∙◌, not, sym}
use Rattle.std.proofs.lemmas.Bool.{and_parts, eqb-true}
use Rattle.history_standing.specs.Ends.{is_over}
use Rattle.history_standing.proofs.Members.{some_in}
use Rattle.core_standing.specs.Seen.{seen}
use Rattle.core_standing.proofs.Dropping.{lives_on}
use Rattle.core_standing.proofs.Forgotten.{in_behind}
use Rattle.core_standing.proofs.ends.lives_itself.Goals as goal

pub returns : goal.returns
returns c = λ lives stood.
    (let s = c.args.standing.now in
    let n = c.args.node.now in
    let cfg = c.args.config.now in
    let found = some_in (λ a. (a.adapter == n.number) && not (is_over cfg a)) s.activations.kept (sym c.has_live.ensures ∙ lives) in
    let parts = and_parts (found.0.adapter == n.number) (not (is_over cfg found.0)) found.2 in
    lives_on cfg (seen s) n found.0 stood (in_behind s.activations.forgotten s.activations.kept found.0 found.1) parts.1
    (eqb-true found.0.adapter n.number parts.0))
