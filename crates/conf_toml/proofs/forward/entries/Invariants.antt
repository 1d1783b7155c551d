use Rattle.std.proofs.Common.{◌≡◌, []}
use Rattle.conf_fields.specs.Numbers.{find_in, place_of}
use Rattle.conf_fields.proofs.Entries.{Reached}
use Rattle.poa_policy.specs.Entries.{EachAfter}
use Rattle.poa_policy.specs.Kept.{IsForward}
use Rattle.conf_toml.specs.Forwards.{forward_after, forward_paths}
use Rattle.conf_toml.proofs.forward.entries.Given as goal

abbrev pub invariant-loop-i : goal.invariant-loop-i
invariant-loop-i l = record {
  reached : Reached forward_after l.values l.i l.forwards.items;
  kept : EachAfter IsForward [] l.forwards.items;
  noted : find_in l.paths ≡ place_of (forward_paths l.forwards.items);
}
