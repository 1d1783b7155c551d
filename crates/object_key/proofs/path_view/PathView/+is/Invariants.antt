use Rattle.std.proofs.Common.{length}
use Rattle.object_key.proofs.path_view.PathView.+is.Given as goal

abbrev pub decreases-is : goal.decreases-is
decreases-is l = length l.path.now
