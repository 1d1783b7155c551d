use Rattle.std.proofs.Common.{Some}
use Rattle.conf_fields.proofs.Formed.{paths_named}
use Rattle.conf_fields.proofs.names.path_of_text.Goals as goal

pub returns-in-Ok-clause-named : goal.returns-in-Ok-clause-named
returns-in-Ok-clause-named c = paths_named c.as_bytes.result.now (Some c.in-Ok.names) c.in-Ok.ensures.value
