-- A profile without a body tells no key.
use Rattle.ior_text.proofs.Keys.{none_told}
use Rattle.ior_text.proofs.key.read_key.Goals as goal

pub returns-in_default : goal.returns-in_default
returns-in_default c = none_told c.args.profile.now (rw c.in_default.is at c.in_ok-body.ensures)
