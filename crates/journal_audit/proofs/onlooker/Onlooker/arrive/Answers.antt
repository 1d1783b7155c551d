use Rattle.std.proofs.Common.{Bool, ap}
use Rattle.journal_audit.proofs.Looked.{looks_arrived}
use Rattle.journal_audit.proofs.onlooker.Onlooker.arrive.Goals as goal

pub returns-clause-knows : goal.returns-clause-knows
returns-clause-knows c = λ life looks.
    let o = c.args.self.now in
    looks_arrived life o looks c.args.size c.args.call.now c.hear.new.self c.hear-2.new.self _
    (ap (λ (b : Bool). record o { client = c.hear.new.self; administrator = c.hear-2.new.self; had_line = b }) c.had_line-self.ensures)
    c.in_ok-hear.ensures.hears c.in_ok-hear-2.ensures.hears c.in_ok-hear.ensures.fits c.in_ok-hear-2.ensures.fits
