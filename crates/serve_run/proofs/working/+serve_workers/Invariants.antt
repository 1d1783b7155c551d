use Rattle.serve_run.proofs.working.+serve_workers.Given as goal

abbrev pub decreases-serve_workers : goal.decreases-serve_workers
decreases-serve_workers g l = l.count
