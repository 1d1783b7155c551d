use Rattle.std.proofs.Common.{◌∙◌}
use Rattle.conf_fields.specs.Look.{is_among}
use Rattle.conf_fields.proofs.Keys.{list_any-now}
use Rattle.conf_fields.proofs.tables.is_known.Goals as goal

pub returns : goal.returns
unfolding is_among
returns c = c.contains.ensures.value ∙ list_any-now c.args.key.now c.args.known.now
