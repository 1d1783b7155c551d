use Rattle.std.proofs.Common.{sym, ap, ◌∙◌, subst}
use Rattle.journal_audit.specs.Listening.{HearsRest, Listening, Says}
use Rattle.journal_audit.proofs.Listened.{heard_call}
use Rattle.journal_audit.proofs.listener.Listener.hear.Goals as goal

pub returns-clause-hears : goal.returns-clause-hears
returns-clause-hears c =
    let now = c.self-2.inside in
    heard_call c.args.self.now (record { ear = now.ear; rest = now.rest.now; fits = now.fits }) c.in_ok-told.told c.args.call.now c.args.size
    c.is_call-self-inside.result (ap (λ (l : Listening). l.fits) (sym c.self.view_is) ∙ c.if-not-self.false)
    (subst (λ (l : Listening). Says c.in_ok-told.told (HearsRest c.args.self.now) (HearsRest l)) (sym c.self-2.view_is) c.in_ok-told.ensures.says)
    c.is_call-self-inside.ensures
