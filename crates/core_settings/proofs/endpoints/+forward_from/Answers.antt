use Rattle.std.proofs.Common.{◌<◌, length, ap, sym, ◌∙◌, take, arith}
use Rattle.std.specs.Prelude.{Some, None}
use Rattle.core_settings.specs.Told.{endpoint_in}
use Rattle.core_settings.proofs.Forwards.{forward_at}
use Rattle.core_settings.proofs.endpoints.+forward_from.Goals as goal

pub returns-in-Some : goal.returns-in-Some
returns-in-Some t c =
    let f = endpoint_in c.args.config.now c.args.settings.now in
    let below : c.args.depth < length c.args.path.now = omega arith in
    sym (forward_at f c.args.path.now c.args.depth below
    ∙ ap (λ deep. elim deep [ Some found ↦ Some found | None ↦ f (take c.args.depth c.args.path.now) ]) (sym c.in-Some.ensures))

pub returns-in-None : goal.returns-in-None
returns-in-None t c =
    let f = endpoint_in c.args.config.now c.args.settings.now in
    let below : c.args.depth < length c.args.path.now = omega arith in
    c.endpoint_of-in-None.ensures
    ∙ sym (forward_at f c.args.path.now c.args.depth below
    ∙ ap (λ deep. elim deep [ Some found ↦ Some found | None ↦ f (take c.args.depth c.args.path.now) ]) (sym c.in-None.ensures))
