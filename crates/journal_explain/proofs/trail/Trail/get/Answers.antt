use Rattle.std.proofs.Common.{sym, ◌∙◌}
use Rattle.journal_explain.proofs.Unspoken.{unhanded}
use Rattle.journal_explain.proofs.trail.Trail.get.Goals as goal

pub returns : goal.returns
returns c = unhanded c.args.given.now c.args.entry c.args.self.now (sym c.is_to.ensures ∙ c.if-is_to.false)
