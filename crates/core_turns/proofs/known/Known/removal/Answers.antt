use Rattle.std.proofs.Common.{◌∙◌}
use Rattle.core_turns.proofs.known.Known.removal.Goals as goal

pub returns : goal.returns
returns c = c.removal.ensures ∙ c.requires.stands.removal c.args.worker
