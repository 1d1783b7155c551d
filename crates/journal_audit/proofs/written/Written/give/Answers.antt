use Rattle.std.proofs.Common.{List, ℕ, ◌≡◌, ◌++◌, sym, ap, ◌∙◌, subst}
use Rattle.session_laws.specs.Records.{told}
use Rattle.journal_audit.specs.Listening.{Writes, Writing}
use Rattle.journal_audit.proofs.Wrote.{unwritten}
use Rattle.journal_audit.proofs.written.Written.give.Goals as goal

pub returns-in-None : goal.returns-in-None
returns-in-None c = λ output replies writes.
    let bytes = told c.args.head.now c.args.reply.now in
    let spelled : c.as_slice.result.now ≡ bytes =
    c.as_slice.ensures.value ∙ (c.in_ok-tell.ensures ∙ ap (λ (front : List ℕ). front ++ bytes) c.clear.ensures.items) in
    let was = c.self.inside in
    let w : Writing = record { rest = was.rest.now; fits = was.fits } in
    unwritten w output replies bytes c.if-not-self.false
    (λ rest is. c.in-None.ensures rest (is ∙ ap (λ (front : List ℕ). front ++ rest) (sym spelled)))
    (subst (λ (x : Writing). Writes output replies x) (sym c.self.view_is) writes)
