-- A refused field is where reading stops.
use Rattle.std.proofs.lemmas.Result.{err_from_is_err_and}
use Rattle.ior_text.proofs.Stopping.{no_type_id}
use Rattle.ior_text.proofs.reference_fields.read_reference.Goals as goal

pub returns-in_err-text-clause-bad : goal.returns-in_err-text-clause-bad
returns-in_err-text-clause-bad c =
    let passed = err_from_is_err_and c.from_residual.result c.from_residual.ensures.1 in
    rw (passed.1, passed.2) (no_type_id _ _ _ c.in_err-text.ensures.err c.in_err-text.ensures.refused)
