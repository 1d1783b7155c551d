-- Where the arguments can't be read nothing is asked.
use Rattle.std.proofs.lemmas.Result.{err_from_is_err_and}
use Rattle.naming_context.proofs.Arguments.{unbound, unrebound, unresolved, ununbound, unmade, untyped}
use Rattle.naming_context.proofs.argument.read_asked.Goals as goal

pub returns-in_err-name-in-Bind-clause-bad : goal.returns-in_err-name-in-Bind-clause-bad
returns-in_err-name-in-Bind-clause-bad c =
    let passed = err_from_is_err_and c.from_residual.result c.from_residual.ensures.1 in
    rw (passed.1, passed.2) (unbound _ _ _ c.in-Bind.is c.in_err-name-in-Bind.ensures.bad)

pub returns-in_err-name-in-Rebind-clause-bad : goal.returns-in_err-name-in-Rebind-clause-bad
returns-in_err-name-in-Rebind-clause-bad c =
    let passed = err_from_is_err_and c.from_residual-in_err-name-in-Rebind.result c.from_residual-in_err-name-in-Rebind.ensures.1 in
    rw (passed.1, passed.2) (unrebound _ _ _ c.in-Rebind.is c.in_err-name-in-Rebind.ensures.bad)

pub returns-in_err-read_name_alone-in-Resolve-clause-bad : goal.returns-in_err-read_name_alone-in-Resolve-clause-bad
returns-in_err-read_name_alone-in-Resolve-clause-bad c =
    let passed = err_from_is_err_and c.from_residual-in_err-read_name_alone-in-Resolve.result c.from_residual-in_err-read_name_alone-in-Resolve.ensures.1 in
    rw (passed.1, passed.2) (unresolved _ _ _ c.in-Resolve.is c.in_err-read_name_alone-in-Resolve.ensures.bad)

pub returns-in_err-read_name_alone-in-Unbind-clause-bad : goal.returns-in_err-read_name_alone-in-Unbind-clause-bad
returns-in_err-read_name_alone-in-Unbind-clause-bad c =
    let passed = err_from_is_err_and c.from_residual-in_err-read_name_alone-in-Unbind.result c.from_residual-in_err-read_name_alone-in-Unbind.ensures.1 in
    rw (passed.1, passed.2) (ununbound _ _ _ c.in-Unbind.is c.in_err-read_name_alone-in-Unbind.ensures.bad)

pub returns-in_err-read_name_alone-in-BindNewContext-clause-bad : goal.returns-in_err-read_name_alone-in-BindNewContext-clause-bad
returns-in_err-read_name_alone-in-BindNewContext-clause-bad c =
    let passed = err_from_is_err_and c.from_residual-in_err-read_name_alone-in-BindNewContext.result c.from_residual-in_err-read_name_alone-in-BindNewContext.ensures.1 in
    rw (passed.1, passed.2) (unmade _ _ _ c.in-BindNewContext.is c.in_err-read_name_alone-in-BindNewContext.ensures.bad)

pub returns-in_err-read_type-in-IsA-clause-bad : goal.returns-in_err-read_type-in-IsA-clause-bad
returns-in_err-read_type-in-IsA-clause-bad c =
    let passed = err_from_is_err_and c.from_residual-in_err-read_type-in-IsA.result c.from_residual-in_err-read_type-in-IsA.ensures.1 in
    rw (passed.1, passed.2) (untyped _ _ _ c.in-IsA.is c.in_err-read_type-in-IsA.ensures.bad)
