use Rattle.history_standing.proofs.Parents.{parent_taken}
use Rattle.history_standing.proofs.paths.parent_path.Goals as goal

pub returns-in-len1-up : goal.returns-in-len1-up
returns-in-len1-up c = parent_taken c.args.path.now
