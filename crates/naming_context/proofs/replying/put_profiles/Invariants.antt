use Rattle.std.proofs.Common.{◌≡◌, take}
use Rattle.ior_text.specs.Written.{with_profiles}
use Rattle.naming_context.proofs.replying.put_profiles.Given as goal

-- the profiles so far are written
abbrev pub invariant-loop-profile : goal.invariant-loop-profile
invariant-loop-profile l = l.writer ≡ with_profiles (take l.profile-index l.profiles) l.fn.writer
