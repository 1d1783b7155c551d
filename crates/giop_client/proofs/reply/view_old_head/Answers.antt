-- Where the contexts, the id or the status can't be read, there is no head.
use Rattle.std.proofs.Common.{ℕ}
use Rattle.cdr_core.specs.Cursor.{Cursor}
use Rattle.ior_text.proofs.Refused.{on_err}
use Rattle.giop_client.specs.Reply.{OldHead}
use Rattle.giop_client.proofs.Heads.{no_old_told}
use Rattle.giop_client.proofs.reply.view_old_head.Goals as goal

pub returns-in_err-pass_counted-clause-bad : goal.returns-in_err-pass_counted-clause-bad
returns-in_err-pass_counted-clause-bad c =
    let none : (id number : ℕ) (after : Cursor) → OldHead id number c.args.view.now after
    → ⊥ = λ id number after head. c.in_err-pass_counted.ensures.bad head.behind head.contexts in
    on_err _ none

pub returns-in_err-told-clause-bad : goal.returns-in_err-told-clause-bad
returns-in_err-told-clause-bad c = on_err _ (no_old_told _ _ c.in_ok-pass_counted.ensures.ok c.in_err-told.ensures.bad)
