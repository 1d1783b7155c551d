use Rattle.std.proofs.Common.{take}
use Rattle.poad_files.specs.Shown.{Adds, ProfilesShown}
use Rattle.poad_files.proofs.reference.put_profiles.Given as goal

-- the lines of the profiles so far were added
abbrev pub invariant-loop-index : goal.invariant-loop-index
invariant-loop-index l = Adds (ProfilesShown 0 (take l.index l.profiles)) l.fn.out.items l.out.items
