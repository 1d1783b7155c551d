use Rattle.std.proofs.Common.{take}
use Rattle.ior_text.specs.Reference.{AreAt}
use Rattle.ior_text.proofs.located.addresses_with.Given as goal

abbrev pub invariant-loop-profile : goal.invariant-loop-profile
invariant-loop-profile l = AreAt l.key l.addresses (take l.profile-index l.profiles)
