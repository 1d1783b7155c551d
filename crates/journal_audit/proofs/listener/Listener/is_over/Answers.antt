use Rattle.std.proofs.Common.{ap, sym, ◌∙◌, Bool, subst}
use Rattle.journal_audit.specs.Listening.{IsOver, Listening}
use Rattle.journal_audit.proofs.Listened.{over_lost, over_told}
use Rattle.journal_audit.proofs.listener.Listener.is_over.Goals as goal

pub returns-then-not-self : goal.returns-then-not-self
returns-then-not-self c = over_lost c.args.self.now (ap (λ (l : Listening). l.fits) (sym c.self.view_is) ∙ c.if-not-self.true)

pub returns : goal.returns
returns c =
    subst (λ (b : Bool). IsOver b c.args.self.now) (sym c.is_end.ensures)
    (over_told c.args.self.now c.next.new.self (ap (λ (l : Listening). l.fits) (sym c.self.view_is) ∙ c.if-not-self.false) c.in_ok-told.told
    c.in_ok-told.ensures.says)
