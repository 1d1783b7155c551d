use Rattle.std.proofs.Common.{◌≡◌, map}
use Rattle.toml.specs.View.{table_view}
use Rattle.conf_fields.specs.Look.{unknown_key}
use Rattle.conf_fields.proofs.Keys.{unknown_in}
use Rattle.conf_fields.proofs.tables.unknown_in.Given as goal

abbrev pub invariant-loop-key : goal.invariant-loop-key
invariant-loop-key l = record {
  can : (goal.iterator-loop-key).can_next l.key-iterator;
  ends : (goal.iterator-loop-key).is_finite l.key-iterator;
  same : unknown_in (map (λ k. k.now) l.known) l.key-iterator ≡ unknown_key (map (λ k. k.now) l.known) (table_view l.table);
}
