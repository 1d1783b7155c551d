use Rattle.std.proofs.Common.{◌-◌, length}
use Rattle.core_settings.proofs.endpoints.+forward_from.Given as goal

abbrev pub decreases-forward_from : goal.decreases-forward_from
decreases-forward_from l = length l.path.now - l.depth
