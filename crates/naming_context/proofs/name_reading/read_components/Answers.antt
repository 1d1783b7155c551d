-- One more component was read, or can't be.
use Rattle.std.proofs.lemmas.Result.{err_from_is_err_and}
use Rattle.naming_context.proofs.NameReading.{no_more, pushed_read}
use Rattle.naming_context.proofs.name_reading.read_components.Goals as goal

pub returns-in_err-component-clause-bad : goal.returns-in_err-component-clause-bad
returns-in_err-component-clause-bad c =
    let passed = err_from_is_err_and c.from_residual.result c.from_residual.ensures.1 in
    rw (passed.1, passed.2)
    (λ not_memory. no_more c.loop.counter _ c.loop.name _ _ c.loop.invariant c.loop-test.true (c.in_err-component.ensures.bad not_memory))

pub loop-preserved : goal.loop-preserved
loop-preserved c =
    pushed_read c.loop.counter c.loop.name c.push.new.self c.in_ok-component.component _ _ _ c.loop.invariant c.in_ok-component.ensures.ok
    c.in_ok-push.ensures.ok
