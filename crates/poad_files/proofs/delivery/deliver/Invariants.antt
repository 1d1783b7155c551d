use Rattle.std.proofs.Common.{◌≤◌, length}
use Rattle.poad_files.proofs.Delivered.{Delivered}
use Rattle.poad_files.proofs.delivery.deliver.Given as goal

abbrev pub invariant-loop-rest : goal.invariant-loop-rest
invariant-loop-rest g l = Delivered (g.K.Sink.held l.initial.sink) (g.K.Sink.held l.sink) l.bytes l.rest
    × (g.K.Sink.write_faults l.initial.sink ≤ g.K.Sink.write_faults l.sink)

abbrev pub decreases-loop-rest : goal.decreases-loop-rest
decreases-loop-rest g l = length l.rest
