use Rattle.object_key.proofs.Names.{no_names, one_more}
use Rattle.object_key.proofs.viewing.pass_names.Goals as goal

pub returns-in_err-view_name-clause-none : goal.returns-in_err-view_name-clause-none
returns-in_err-view_name-clause-none c =
    rw c.from_residual.ensures (λ names rest. no_names _ _ _ _ _ _ _ c.loop-test.true c.loop.invariant (c.in_err-view_name.ensures.none))

pub loop-preserved : goal.loop-preserved
loop-preserved c = one_more _ _ _ _ _ c.loop.invariant c.in_ok-view_name.ensures.some
