use Rattle.std.proofs.Common.{◌<◌, length, ap, sym, ◌∙◌, take, arith}
use Rattle.std.specs.Prelude.{option_map}
use Rattle.core_settings.specs.Told.{endpoint_in}
use Rattle.journal_explain.proofs.Forwarding.{forwarding_at, here_or}
use Rattle.journal_explain.proofs.ruling.+depth_from.Goals as goal

pub returns-in-Some : goal.returns-in-Some
returns-in-Some t c =
    let f = endpoint_in c.args.config.now c.args.settings.now in
    let p = c.args.path.now in
    let k = c.args.depth in
    let below : k < length p = omega arith in
    sym (forwarding_at f p k below
    ∙ ap (λ deep. here_or deep (take k p) (f (take k p))) (sym (sym (ap (option_map (λ n. take n p)) c.in-Some.is) ∙ c.depth_from.ensures)))

pub returns-in-None : goal.returns-in-None
returns-in-None t c =
    let f = endpoint_in c.args.config.now c.args.settings.now in
    let p = c.args.path.now in
    let k = c.args.depth in
    let below : k < length p = omega arith in
    c.depth_with-in-None.ensures
    ∙ sym (forwarding_at f p k below
    ∙ ap (λ deep. here_or deep (take k p) (f (take k p))) (sym (sym (ap (option_map (λ n. take n p)) c.in-None.is) ∙ c.depth_from.ensures)))
