-- Where the count or one of the components can't be read there are none.
use Rattle.std.proofs.lemmas.Result.{err_from_is_err_and}
use Rattle.ior_text.proofs.CountedParts.{none_counted, none_where_stopped, counted_read}
use Rattle.ior_text.proofs.components.read_counted.Goals as goal

pub returns-in_err-count-clause-bad : goal.returns-in_err-count-clause-bad
returns-in_err-count-clause-bad c =
    let passed = err_from_is_err_and c.from_residual.result c.from_residual.ensures.1 in
    rw (passed.1, passed.2) (λ _. none_counted _ _ c.in_err-count.ensures.refused)

pub returns-in_err-components-clause-bad : goal.returns-in_err-components-clause-bad
returns-in_err-components-clause-bad c =
    let passed = err_from_is_err_and c.from_residual-in_err-components.result c.from_residual-in_err-components.ensures.1 in
    rw (passed.1, passed.2) (none_where_stopped _ _ c.read_profiles.new.reader _ _ c.in_ok-count.ensures.ok c.in_err-components.ensures.bad)

pub returns-clause-components : goal.returns-clause-components
returns-clause-components c = counted_read _ _ _ _ _ c.in_ok-count.ensures.ok c.in_ok-components.ensures.count c.in_ok-components.ensures.profiles
