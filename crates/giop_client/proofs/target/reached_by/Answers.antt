use Rattle.giop_client.proofs.Targets.{no_body_told}
use Rattle.giop_client.proofs.target.reached_by.Goals as goal

pub returns-in_default-clause-target : goal.returns-in_default-clause-target
returns-in_default-clause-target c = no_body_told c.args.profile.now (rw c.in_default.is at c.in_ok-body.ensures)
