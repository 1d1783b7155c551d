use Rattle.std.proofs.Common.{◌-◌, ◌*◌}
use Rattle.poa_shared_tests.proofs.writers.+fn-write_all-join+arg3+write_all.Given as goal

abbrev pub decreases-join+arg3 : goal.decreases-join+arg3
decreases-join+arg3 g l = 2 * l.writers - 1

abbrev pub decreases-write_all : goal.decreases-write_all
decreases-write_all g l = 2 * l.writers
