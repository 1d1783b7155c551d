use Rattle.std.proofs.Common.{◌≡◌, ◌∙◌, Some, ap, sym, subst}
use Rattle.std.specs.Prelude.{IfOk}
use Rattle.poa_history.specs.Verdicts.{verdict, verdict_on}
use Rattle.core_standing.specs.Seen.{seen}
use Rattle.core_turns.proofs.CommandsAre.{command_same}
use Rattle.core_turns.proofs.verdicts.verdict_on.Goals as goal

pub returns-in-Line : goal.returns-in-Line
unfolding verdict
returns-in-Line c = λ past r answers tells crowded arrived.
    (let config = c.args.config.now in
    subst (λ v. IfOk c.command_verdict.result (λ verdict. verdict ≡ v))
    (command_same config c.args.run past (seen c.args.standing.now) answers c.in-Line.command
    ∙ ap (verdict_on config c.args.run past r c.args.worker) (sym (arrived ∙ ap (λ x. Some x) c.in-Line.is)))
    (c.command_verdict.ensures past tells))
