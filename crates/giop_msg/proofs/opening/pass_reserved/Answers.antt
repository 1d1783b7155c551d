-- None in version 1.0, else three octets.
use Rattle.std.proofs.Common.{arith}
use Rattle.giop_msg.proofs.Openings.{reserved_read}
use Rattle.giop_msg.proofs.opening.pass_reserved.Goals as goal

pub returns-clause-ok : goal.returns-clause-ok
returns-clause-ok c =
    reserved_read c.args.minor c.in_ok-octet.field-0 c.in_ok-octet-2.field-0 c.in_ok-octet-3.field-0 c.args.view.now c.octet.new.self c.octet-2.new.self
    c.octet-3.new.self
    (λ none. omega (arith, none)) c.in_ok-octet.ensures.ok c.in_ok-octet-2.ensures.ok c.in_ok-octet-3.ensures.ok
