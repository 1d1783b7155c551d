use Rattle.ior_text.proofs.Locations.{no_key, no_addresses}
use Rattle.ior_text.proofs.located.locate.Goals as goal

pub returns-in_default : goal.returns-in_default
returns-in_default c = no_key c.args.ior.now (rw c.in_default.is at c.in_ok-key.ensures)

pub returns-in_default-2 : goal.returns-in_default-2
returns-in_default-2 c =
    no_addresses c.args.ior.now c.in-Some.key (rw c.in-Some.is at c.in_ok-key.ensures)
    (rw (c.as_slice.ensures, c.as_slice-2.ensures) at (rw c.in_default-2.is at c.in_ok-addresses.ensures))
