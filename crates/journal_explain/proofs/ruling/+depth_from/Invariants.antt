use Rattle.std.proofs.Common.{◌-◌, length}
use Rattle.journal_explain.proofs.ruling.+depth_from.Given as goal

abbrev pub decreases-depth_from : goal.decreases-depth_from
decreases-depth_from l = length l.path.now - l.depth
