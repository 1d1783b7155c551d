use Rattle.std.proofs.Common.{◌≡◌, subst, ◌∙◌, ap}
use Rattle.std.specs.Prelude.{IfOk}
use Rattle.history_standing.specs.Opening.{made_id}
use Rattle.history_standing.specs.Commands.{ior_row}
use Rattle.core_turns.proofs.referring.made_ior_row.Goals as goal

pub returns : goal.returns
returns c =
    subst (λ o. IfOk c.ior_row.result
    (λ v. v ≡ ior_row c.args.config.now c.args.run c.args.node.now c.args.path.now o c.args.servant))
    (c.in_ok-oid.ensures ∙ ap (made_id c.args.run) c.in_ok-ordinal.ensures) c.ior_row.ensures
