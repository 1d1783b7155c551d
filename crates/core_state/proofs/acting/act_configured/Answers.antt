use Rattle.std.proofs.Common.{arith, ◌<◌, ◌≤◌, length}
use Rattle.core_state.proofs.Writes.{write_activations, write_tells, past_acts, past_tells}
use Rattle.core_state.proofs.acting.act_configured.Goals as goal

pub returns-then-place-len-clause-ok : goal.returns-then-place-len-clause-ok
returns-then-place-len-clause-ok c =
    let low : c.args.number < length c.args.configured.now.items = omega (arith, c.if-place-len.true, c.len.ensures, c.args.configured.now.ok.0) in
    write_activations c.act_on.result c.args.configured.now.items c.args.number _ _ _ low c.index_mut.ensures.value c.act_on.ensures.ok

pub returns-then-place-len-clause-outcome : goal.returns-then-place-len-clause-outcome
returns-then-place-len-clause-outcome c =
    let low : c.args.number < length c.args.configured.now.items = omega (arith, c.if-place-len.true, c.len.ensures, c.args.configured.now.ok.0) in
    write_tells c.act_on.result c.args.configured.now.items c.args.number _ _ _ low c.index_mut.ensures.value c.act_on.ensures.ok

pub returns-else-place-len-clause-ok : goal.returns-else-place-len-clause-ok
returns-else-place-len-clause-ok c =
    let high : length c.args.configured.now.items ≤ c.args.number = omega (arith, c.if-place-len.false, c.len.ensures, c.args.configured.now.ok.0) in
    past_acts c.act_on_none.result c.args.configured.now.items c.args.number _ high c.act_on_none.ensures

pub returns-else-place-len-clause-outcome : goal.returns-else-place-len-clause-outcome
returns-else-place-len-clause-outcome c =
    let high : length c.args.configured.now.items ≤ c.args.number = omega (arith, c.if-place-len.false, c.len.ensures, c.args.configured.now.ok.0) in
    past_tells c.act_on_none.result c.args.configured.now.items c.args.number _ high c.act_on_none.ensures
