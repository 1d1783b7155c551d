use Rattle.std.proofs.lemmas.Result.{err_from_is_err_and}
use Rattle.poad_call.proofs.Results.{no_octets}
use Rattle.poad_call.proofs.result.read_result.Goals as goal

pub returns-in_err-octets-in-Octets-clause-bad : goal.returns-in_err-octets-in-Octets-clause-bad
returns-in_err-octets-in-Octets-clause-bad c =
    let passed = err_from_is_err_and c.from_residual-in_err-octets-in-Octets.result c.from_residual-in_err-octets-in-Octets.ensures.1 in
    rw (passed.1, passed.2, c.in-Octets.is) (no_octets _ _ _ c.front-reader.ensures c.in_err-octets-in-Octets.ensures.refused)
