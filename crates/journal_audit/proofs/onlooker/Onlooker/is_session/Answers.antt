use Rattle.std.proofs.Common.{ℕ, Bool, not, ◌&&◌, IsTrue, ◌↔◌, sym, ap, ◌∙◌, subst}
use Rattle.session_laws.specs.Records.{IsPaidBy}
use Rattle.journal_audit.specs.Listening.{IsWhole, Writing}
use Rattle.journal_audit.specs.Looking.{IsSessionIn}
use Rattle.journal_audit.proofs.Ended.{session_is}
use Rattle.journal_audit.proofs.onlooker.Onlooker.is_session.Goals as goal

pub returns : goal.returns
returns c =
    let o = c.args.self.now in
    let life = c.args.run.now in
    let over = c.in_ok-is_over.is_over in
    let paid = c.is_paid-is_paid.result in
    let whole = c.is_whole-is_whole.result in
    subst (λ (b : Bool). IsTrue b ↔ IsSessionIn life o.link)
    (sym (c.is_ended.ensures ∙ ap (λ (filled : Bool). over && (paid && (not filled && whole))) c.in_ok-is_over.ensures.filled))
    (session_is life o c.requires over paid whole (c.in_ok-is_over.ensures.over life c.requires)
    (subst (λ (conn : ℕ). IsTrue paid ↔ IsPaidBy life.history conn) c.conn.ensures c.is_paid-is_paid.ensures)
    (subst (λ (w : Writing). IsWhole whole w) c.in_ok-is_over.ensures.written c.is_whole-is_whole.ensures))
