use Rattle.std.proofs.Common.{ap, ◌∙◌}
use Rattle.admin_line.proofs.ReadBack.{line_back}
use Rattle.admin_line.specs.Reading.{command_of_line}
use Rattle.admin_line.proofs.line.write_line.Goals as goal

pub returns-clause-back : goal.returns-clause-back
returns-clause-back c =
    λ h. ap command_of_line (c.from_vec.ensures ∙ c.in_ok-out.ensures) ∙ line_back c.args.command.now c.requires h
