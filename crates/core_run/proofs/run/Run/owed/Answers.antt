use Rattle.std.proofs.Common.{sym, ◌∙◌}
use Rattle.core_outboxes.proofs.Given.{owed_is}
use Rattle.core_run.proofs.run.Run.owed.Goals as goal

pub returns : goal.returns
returns c =
    (let l = c.args.self.now in c.owed.ensures ∙ sym (owed_is l.config l.run l.history c.desk.result.now.owing.items c.args.conn c.desk.ensures))
