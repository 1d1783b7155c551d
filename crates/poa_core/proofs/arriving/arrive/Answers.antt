use Rattle.std.proofs.Common.{sym, ◌∙◌}
use Rattle.poa_core.proofs.Taken.{may_arrive}
use Rattle.poa_core.proofs.arriving.arrive.Goals as goal

pub arrive-requires : goal.arrive-requires
arrive-requires c =
    (let l = c.args.run.now in
    may_arrive l.limit l.history c.args.conn c.args.size c.args.call c.requires.conn c.requires.size
    (sym c.is_taken.ensures ∙ c.if-not-is_taken.false))
