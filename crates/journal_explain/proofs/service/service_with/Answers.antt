use Rattle.std.proofs.Common.{◌≡◌, Some, sym, ◌∙◌}
use Rattle.journal_explain.specs.Serving.{served_with}
use Rattle.journal_explain.proofs.Servable.{servable_next, service_is}
use Rattle.journal_explain.proofs.service.service_with.Goals as goal

pub returns-in_ok-servant-in-Some : goal.returns-in_ok-servant-in-Some
returns-in_ok-servant-in-Some c = λ follows.
    let life = c.args.run.now in
    let entry = c.args.next.now.entry.now in
    let number = c.in-Some.number in
    let served : served_with entry ≡ Some number = sym c.served_with.ensures ∙ c.in-Some.is in
    service_is life entry c.args.next.now.begun number served c.in_ok-servant-in-Some.servant
    (c.in_ok-servant-in-Some.ensures (servable_next life entry number c.keeps_laws.ensures.runs follows served))
