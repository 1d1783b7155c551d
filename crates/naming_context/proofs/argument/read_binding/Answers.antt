-- A name and a reference were read, or one of them can't be.
use Rattle.std.proofs.lemmas.Result.{err_from_is_err_and}
use Rattle.naming_context.proofs.Arguments.{no_name_of_both_read, no_object_read}
use Rattle.naming_context.proofs.argument.read_binding.Goals as goal

pub returns-in_err-name-clause-bad : goal.returns-in_err-name-clause-bad
returns-in_err-name-clause-bad c =
    let passed = err_from_is_err_and c.from_residual.result c.from_residual.ensures.1 in
    rw (passed.1, passed.2) (no_name_of_both_read _ _ _ c.front-reader.ensures c.in_err-name.ensures.bad)

pub returns-in_err-object-clause-bad : goal.returns-in_err-object-clause-bad
returns-in_err-object-clause-bad c =
    let passed = err_from_is_err_and c.from_residual-in_err-object.result c.from_residual-in_err-object.ensures.1 in
    rw (passed.1, passed.2) (no_object_read _ _ _ _ c.read_reference.new.reader _ c.front-reader.ensures c.in_ok-name.ensures.ok c.in_err-object.ensures.bad)
