use Rattle.std.proofs.Common.{◌∙◌}
use Rattle.core_standing.proofs.KeysRead.{key_is_seen}
use Rattle.core_standing.proofs.keys.key_of.Goals as goal

pub returns : goal.returns
returns c = c.ok.ensures.value ∙ key_is_seen _ _ c.view_key.ensures.spelled c.view_key.ensures.bad
