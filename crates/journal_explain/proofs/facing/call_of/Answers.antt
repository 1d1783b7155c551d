use Rattle.journal_explain.proofs.Standing.{call_is, called}
use Rattle.journal_explain.proofs.facing.call_of.Goals as goal

pub returns : goal.returns
returns c =
    let life = c.args.run.now in
    let entries = c.entries.result.now.items in
    call_is life entries c.args.arrival _ c.entries.ensures
    (c.call-found.ensures (called life entries c.tables.result.now c.entries.ensures c.tables.ensures.tables))
