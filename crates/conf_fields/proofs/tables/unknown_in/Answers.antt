use Rattle.std.proofs.Common.{map}
use Rattle.conf_fields.proofs.Keys.{unknown_in-keys}
use Rattle.conf_fields.proofs.tables.unknown_in.Goals as goal

pub loop-key-init : goal.loop-key-init
loop-key-init c = record {
  can = tt;
  ends = tt;
  same = rw (c.into_iter-key-iterator.ensures.into_iter_gives, c.keys-key-items.ensures.rest)
      (unknown_in-keys (map (λ k. k.now) c.args.known.now) c.args.table.now.entries);
}
