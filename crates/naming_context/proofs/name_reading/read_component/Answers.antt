-- An id and a kind were read, or one of them can't be.
use Rattle.std.proofs.lemmas.Result.{err_from_is_err_and}
use Rattle.naming_context.proofs.NameReading.{no_id, no_kind}
use Rattle.naming_context.proofs.name_reading.read_component.Goals as goal

pub returns-in_err-text-clause-bad : goal.returns-in_err-text-clause-bad
returns-in_err-text-clause-bad c =
    let passed = err_from_is_err_and c.from_residual.result c.from_residual.ensures.1 in
    rw (passed.1, passed.2) (no_id _ _ c.in_err-text.ensures.refused)

pub returns-in_err-text-2-clause-bad : goal.returns-in_err-text-2-clause-bad
returns-in_err-text-2-clause-bad c =
    let passed = err_from_is_err_and c.from_residual-in_err-text-2.result c.from_residual-in_err-text-2.ensures.1 in
    rw (passed.1, passed.2) (no_kind _ _ _ _ c.in_ok-text.ensures.ok c.in_err-text-2.ensures.refused)
