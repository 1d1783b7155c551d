use Rattle.std.proofs.Common.{◌≡◌, sym, subst}
use Rattle.std.specs.Prelude.{IfOk}
use Rattle.history_standing.specs.Commands.{command_verdict}
use Rattle.core_standing.specs.Seen.{seen}
use Rattle.core_turns.proofs.commands.command_verdict.Goals as goal

pub returns-in-Manager : goal.returns-in-Manager
unfolding command_verdict
returns-in-Manager c = λ past tells.
    subst (λ command. IfOk c.manager_row.result (λ verdict. verdict ≡ command_verdict c.args.config.now c.args.run past (seen c.args.standing.now) command))
    (sym c.in-Manager.is) (c.manager_row.ensures past tells)
