use Rattle.std.proofs.Common.{◌≡◌, take, length}
use Rattle.std.specs.Prelude.{All}
use Rattle.cdr_core.specs.Field.{ulong}
use Rattle.cdr_core.specs.Draft.{with_field}
use Rattle.ior_text.specs.Written.{with_profiles, IsProfile}
use Rattle.ior_text.proofs.writing.write_profiles.Given as goal

-- the profiles so far are written, and CDR can carry them
abbrev pub invariant-loop-profile : goal.invariant-loop-profile
invariant-loop-profile l = record {
  written : l.writer ≡ with_profiles (take l.profile-index l.profiles) (with_field (ulong (length l.profiles)) l.fn.writer);
  profiles : All IsProfile (take l.profile-index l.profiles);
}
