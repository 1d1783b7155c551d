-- Before version 1.2 the key was read.
use Rattle.ior_text.proofs.Refused.{on_err}
use Rattle.giop_msg.proofs.Targets.{no_key_addressed}
use Rattle.giop_msg.proofs.target.view_addressed.Goals as goal

pub returns-in_err-octets-clause-bad : goal.returns-in_err-octets-clause-bad
returns-in_err-octets-clause-bad c = on_err _ (no_key_addressed c.args.minor _ _ c.if-minor-eq-MINOR.false c.in_err-octets.ensures.refused)
