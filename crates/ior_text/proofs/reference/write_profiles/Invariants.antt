use Rattle.std.proofs.Common.{◌≡◌, map, take}
use Rattle.ior_text.specs.CorbalocProfile.{profile_of}
use Rattle.ior_text.proofs.reference.write_profiles.Given as goal

abbrev pub invariant-loop-address : goal.invariant-loop-address
invariant-loop-address l = l.profiles ≡ map (λ address. profile_of address l.key) (take l.address-index l.addresses)
