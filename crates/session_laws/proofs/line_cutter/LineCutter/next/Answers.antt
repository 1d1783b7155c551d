use Rattle.std.proofs.Common.{sym, ap, ◌∙◌}
use Rattle.session_laws.specs.Expecting.{Cutting}
use Rattle.session_laws.proofs.Answers.{cut_line, cut_line_long, cut_long, cut_over}
use Rattle.session_laws.proofs.line_cutter.LineCutter.next.Goals as goal

pub returns-then-is_long-clause-told : goal.returns-then-is_long-clause-told
returns-then-is_long-clause-told c =
    cut_long c.args.self.now c.self.inside.place c.unread-unread.result.now (ap (λ (l : Cutting). l.place) c.self.view_is) c.unread-unread.ensures
    c.in_default.ensures.parts (sym c.is_long.ensures ∙ c.if-is_long.true)

pub returns-in_default-clause-told : goal.returns-in_default-clause-told
returns-in_default-clause-told c =
    cut_over c.args.self.now c.self.inside.place c.unread-unread.result.now (ap (λ (l : Cutting). l.place) c.self.view_is) c.unread-unread.ensures
    c.in_default.ensures.parts (sym c.is_long.ensures ∙ c.if-is_long.false)

pub returns-then-is_long-2-clause-told : goal.returns-then-is_long-2-clause-told
returns-then-is_long-2-clause-told c =
    cut_line_long c.args.self.now c.self.inside.place c.unread-unread.result.now (ap (λ (l : Cutting). l.place) c.self.view_is) c.unread-unread.ensures
    c.in-Some.raw.now c.in-Some.field-0-1.now c.in-Some.ensures.parts c.in-Some.ensures.clear (sym c.is_long-2.ensures ∙ c.if-is_long-2.true)

pub returns-clause-told : goal.returns-clause-told
returns-clause-told c =
    cut_line c.args.self.now c.self.inside.place c.unread-unread.result.now (ap (λ (l : Cutting). l.place) c.self.view_is) c.unread-unread.ensures
    c.in-Some.raw.now c.in-Some.field-0-1.now c.in-Some.ensures.parts c.in-Some.ensures.clear
    c.skip_line.new.self c.self.inside.number c.without_return.result.now c.in_ok-told.told (ap (λ (l : Cutting). l.number) c.self.view_is)
    (sym c.is_long-2.ensures ∙ c.if-is_long-2.false) c.without_return.ensures c.in_ok-told.ensures c.skip_line.ensures
