use Rattle.std.proofs.Common.{◌≡◌, []}
use Rattle.conf_fields.specs.Numbers.{find_in, seen_of}
use Rattle.conf_fields.proofs.Entries.{Reached}
use Rattle.poa_policy.specs.Entries.{EachAfter}
use Rattle.conf_toml.specs.Found.{IsReadAfter}
use Rattle.conf_toml.specs.Objects.{object_after, ids_of, taken_of}
use Rattle.conf_toml.proofs.object.entries.Given as goal

abbrev pub invariant-loop-i : goal.invariant-loop-i
invariant-loop-i l = record {
  reached : Reached (object_after (find_in l.homes.paths.now) l.homes.adapters.now (find_in l.homes.servants.now)) l.values l.i l.objects.items;
  read : EachAfter (IsReadAfter (find_in l.homes.paths.now) l.homes.adapters.now (find_in l.homes.servants.now)) [] l.objects.items;
  ids : find_in l.ids ≡ seen_of (ids_of l.objects.items);
  taken : find_in l.taken ≡ seen_of (taken_of l.objects.items);
}
