use Rattle.std.proofs.Common.{◌==◌, length, ap, sym, ◌∙◌}
use Rattle.journal_audit.specs.Listening.{Writing}
use Rattle.journal_audit.proofs.Wrote.{not_wholly, wholly}
use Rattle.journal_audit.proofs.written.Written.is_whole.Goals as goal

pub returns-then-self : goal.returns-then-self
returns-then-self c =
    wholly c.args.self.now c.is_empty.result (ap (λ (w : Writing). w.fits) (sym c.self.view_is) ∙ c.if-self.true)
    (c.is_empty.ensures ∙ ap (λ (w : Writing). length w.rest == 0) c.self.view_is)

pub returns-else-self : goal.returns-else-self
returns-else-self c =
    not_wholly c.args.self.now c.self.inside.fits (ap (λ (w : Writing). w.fits) (sym c.self.view_is) ∙ c.if-self.false) c.if-self.false
