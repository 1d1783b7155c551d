-- Where the id, the status or the contexts can't be read, there is no head.
use Rattle.std.proofs.Common.{ℕ}
use Rattle.cdr_core.specs.Cursor.{Cursor}
use Rattle.ior_text.proofs.Refused.{on_err}
use Rattle.giop_client.specs.Reply.{NewHead}
use Rattle.giop_client.proofs.Heads.{no_new_contexts}
use Rattle.giop_client.proofs.reply.view_new_head.Goals as goal

pub returns-in_err-told-clause-bad : goal.returns-in_err-told-clause-bad
returns-in_err-told-clause-bad c =
    let none : (id number : ℕ) (after : Cursor) → NewHead id number c.args.view.now after
    → ⊥ = λ id number after head. c.in_err-told.ensures.bad id number head.behind head.told in
    on_err _ none

pub returns-in_err-pass_counted-clause-bad : goal.returns-in_err-pass_counted-clause-bad
returns-in_err-pass_counted-clause-bad c =
    on_err _ (no_new_contexts _ _ _ _ c.in_ok-told.ensures.ok c.in_err-pass_counted.ensures.bad)
