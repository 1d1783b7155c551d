use Rattle.ior_text.proofs.CorbalocBack.{leads_back}
use Rattle.ior_text.proofs.corbaloc_writing.write_corbaloc.Goals as goal

pub returns-clause-back : goal.returns-clause-back
returns-clause-back c = rw c.in_ok-text.ensures.text (leads_back c.args.ior.now c.in-Some.location (rw c.in-Some.is at c.in_ok-location.ensures)
    c.in_ok-text.ensures.bytes)
