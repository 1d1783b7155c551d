use Rattle.std.specs.Prelude.{option_map}
use Rattle.ior_text.specs.Seen.{seen_profile, SeesAmong}
use Rattle.ior_text.proofs.seen_reference.view_profiles.Given as goal

-- the profiles so far are read
abbrev pub invariant-loop-i : goal.invariant-loop-i
invariant-loop-i l = SeesAmong l.i l.index (option_map seen_profile l.found) l.fn.view l.view
