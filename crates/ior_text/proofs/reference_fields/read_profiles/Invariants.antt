use Rattle.std.proofs.Common.{◌≡◌, length}
use Rattle.ior_text.specs.Tagged.{ReadsProfiles}
use Rattle.ior_text.proofs.reference_fields.read_profiles.Given as goal

-- the profiles so far are read
abbrev pub invariant-loop : goal.invariant-loop
invariant-loop l = record {
  read : ReadsProfiles l.profiles l.fn.reader l.reader;
  count : length l.profiles ≡ l.counter;
}
