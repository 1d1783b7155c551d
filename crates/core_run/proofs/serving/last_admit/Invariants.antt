use Rattle.std.proofs.Common.{◌≡◌, take, reverse}
use Rattle.core_run.specs.Turning as turning
use Rattle.core_run.proofs.serving.last_admit.Given as goal

abbrev pub invariant-loop-place : goal.invariant-loop-place
invariant-loop-place l = turning.last_verdict (reverse (take l.place l.entries.items)) l.arrival ≡ turning.last_verdict (reverse l.entries.items) l.arrival
