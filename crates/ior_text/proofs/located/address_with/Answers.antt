use Rattle.ior_text.proofs.Locations.{none_at, found_at}
use Rattle.ior_text.proofs.located.address_with.Goals as goal

pub returns-in_default : goal.returns-in_default
returns-in_default c = none_at c.args.profile.now c.args.key.now (rw c.in_default.is at c.in_ok-body.ensures)

pub returns : goal.returns
returns c =
    found_at c.args.profile.now c.in-Some.body c.args.key.now c.address_in.result (rw c.in-Some.is at c.in_ok-body.ensures)
    c.address_in.ensures
