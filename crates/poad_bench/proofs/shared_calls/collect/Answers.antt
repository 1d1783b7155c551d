use Rattle.poad_bench.proofs.shared_calls.collect.Goals as goal

pub returns-clause-conn : goal.returns-clause-conn
returns-clause-conn g c = c.collect.ensures.holds c.args.conn c.requires.conn
