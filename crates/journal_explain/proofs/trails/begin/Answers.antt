use Rattle.std.proofs.Common.{ap, sym, ◌∙◌}
use Rattle.journal_explain.specs.Naming.{name_of}
use Rattle.journal_explain.proofs.Beginning.{begins_one}
use Rattle.journal_explain.proofs.Hearing.{on_ok}
use Rattle.journal_explain.proofs.trails.begin.Goals as goal

pub returns-then-asks : goal.returns-then-asks
returns-then-asks c =
    on_ok c.begin_one.result c.begin_one.ensures (λ one.
    begins_one c.args.run.now c.of-name.result c.in-Arrive.call c.args.trails.now.items c.begin_one.new.trails.items c.args.asked.now c.args.place
    c.args.entry.now c.in-Arrive.conn c.in-Arrive.size c.in-Arrive.is
    (c.of-name.ensures ∙ ap (λ r. name_of r c.in-Arrive.conn c.in-Arrive.call) c.arrivals.ensures)
    (sym c.asks.ensures ∙ c.if-asks.true) one)
