use Rattle.std.proofs.Common.{◌≡◌, ◌+◌, sym, refl, length, ◌∙◌, arith}
use Rattle.core_outboxes.specs.Desk.{without_first}
use Rattle.core_outboxes.proofs.Outgoing.{files_still, files_without, first_of_conn, some_due}
use Rattle.core_outboxes.proofs.desk.Desk.collect.Goals as goal

pub returns-in_err-filed-clause-given : goal.returns-in_err-filed-clause-given
returns-in_err-filed-clause-given c = λ fs files.
    (c.from_residual.ensures ∙ sym c.in_err-filed.was ∙ c.take.ensures.given ∙ first_of_conn c.args.self.now c.args.conn fs files)

pub returns-in_err-filed-clause-files : goal.returns-in_err-filed-clause-files
returns-in_err-filed-clause-files c = λ fs files.
    files_still c.args.self.now _ c.args.conn fs files refl c.take.ensures.replies
    (sym (first_of_conn c.args.self.now c.args.conn fs files) ∙ sym c.take.ensures.given ∙ c.in_err-filed.was) refl

pub returns-clause-given : goal.returns-clause-given
returns-clause-given c = λ fs files.
    (sym c.in_ok-filed.was ∙ c.take.ensures.given ∙ first_of_conn c.args.self.now c.args.conn fs files)

pub returns-clause-files : goal.returns-clause-files
returns-clause-files c = λ fs files.
    (let some = sym (returns-clause-given c fs files) in
    let many = some_due c.args.self.now c.args.conn fs c.in_ok-filed.filed files some (length (without_first c.args.conn fs)) refl in
    let less = c.saturating_sub-self.ensures in
    let one : c.saturating_sub-self.result + 1 ≡ c.args.self.now.due = omega (arith, many, less) in
    files_without c.args.self.now _ c.args.conn fs c.in_ok-filed.filed files refl c.take.ensures.replies some one)
