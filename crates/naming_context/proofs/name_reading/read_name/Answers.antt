-- The count and the components were read, or can't be.
use Rattle.std.proofs.lemmas.Result.{err_from_is_err_and}
use Rattle.naming_context.proofs.NameReading.{name_read, no_count, no_components}
use Rattle.naming_context.proofs.Results.{if_ok, if_err}
use Rattle.naming_context.proofs.name_reading.read_name.Goals as goal

pub returns-in_err-count-clause-bad : goal.returns-in_err-count-clause-bad
returns-in_err-count-clause-bad c =
    let passed = err_from_is_err_and c.from_residual.result c.from_residual.ensures.1 in
    rw (passed.1, passed.2) (λ _. no_count _ _ c.in_err-count.ensures.refused)

pub returns-clause-ok : goal.returns-clause-ok
returns-clause-ok c =
    if_ok c.read_components.result _ _ _
    (λ name read counted. name_read name c.in_ok-count.count _ _ _ c.in_ok-count.ensures.ok counted read) c.read_components.ensures.ok c.read_components.ensures.count

pub returns-clause-bad : goal.returns-clause-bad
returns-clause-bad c =
    if_err c.read_components.result _ _ (λ fault none not_memory. no_components _ _ _ c.in_ok-count.ensures.ok (none not_memory))
    c.read_components.ensures.bad
