use Rattle.std.proofs.Common.{◌≡◌, []}
use Rattle.conf_fields.specs.Numbers.{find_in, place_of}
use Rattle.conf_fields.proofs.Entries.{Reached}
use Rattle.poa_policy.specs.Entries.{EachAfter}
use Rattle.conf_toml.proofs.reading.read.Given as goal

abbrev pub invariant-loop-i : goal.invariant-loop-i
invariant-loop-i G l = record {
  reached : Reached (G.R.Reader.after l.reader) l.values l.i l.entries.items;
  rule : EachAfter (G.R.Reader.rule l.reader) [] l.entries.items;
  noted : find_in l.numbers ≡ place_of (G.R.Reader.names l.reader l.entries.items);
}
