use Rattle.std.proofs.Common.{subst}
use Rattle.std.specs.BTreeMap.{values}
use Rattle.active_map.specs.Endings.{takes}
use Rattle.active_map.proofs.Covering.{EntersUpTo, enters_more}
use Rattle.active_map.proofs.leaving.enter_ended.Goals as goal

pub loop-activation-preserved-in-Continue-1 : goal.loop-activation-preserved-in-Continue-1
loop-activation-preserved-in-Continue-1 c =
    (let test = takes c.args.ending in
    let old = c.args.leaving.now.keys in
    let all = values c.args.rows.now in
    let so_far = subst (EntersUpTo test old c.loop-activation.leaving.keys all) c.in-Some.ensures.steps c.loop-activation.invariant in
    enters_more test old c.loop-activation.leaving.keys all c.next.new.self c.in-Some.activation.now so_far c.enter.new.leaving.keys c.enter.ensures.wider
    c.in_ok-enter.ensures.ok)

pub returns-in_err-enter-clause-wider : goal.returns-in_err-enter-clause-wider
returns-in_err-enter-clause-wider c = λ n there. c.enter.ensures.wider n (c.loop-activation.invariant.wider n there)
