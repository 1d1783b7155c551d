use Rattle.std.specs.Prelude.{vec_len}
use Rattle.serve_run.proofs.lanes.+serve_lanes.Given as goal

abbrev pub decreases-serve_lanes : goal.decreases-serve_lanes
decreases-serve_lanes g l = vec_len l.lanes.now
