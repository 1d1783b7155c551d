-- The profile at the index tells the reference's key.
use Rattle.std.proofs.Common.{arith}
use Rattle.std.proofs.lemmas.Grind.{common_steps}
use Rattle.std.proofs.lemmas.Option.{gets}
use Rattle.ior_text.proofs.Keys.{found_at}
use Rattle.ior_text.proofs.key.key_of.Goals as goal

pub returns : goal.returns
returns c =
    found_at _ _ c.in-Some.profile.now (grind (arith, common_steps, gets, c.in-Some.ensures.lookup, c.as_slice.ensures)) c.in_ok-found.found
    c.in_ok-found.ensures
