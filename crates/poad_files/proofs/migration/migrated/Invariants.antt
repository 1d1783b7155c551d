use Rattle.std.proofs.Common.{take}
use Rattle.poad_files.specs.Migration.{AreMigrated}
use Rattle.poad_files.proofs.migration.migrated.Given as goal

-- the profiles so far are written anew, or stay
abbrev pub invariant-loop-profile : goal.invariant-loop-profile
invariant-loop-profile l = AreMigrated l.config (take l.profile-index l.profile-items) l.profiles
