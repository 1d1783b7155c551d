use Rattle.std.proofs.Common.{sym, subst, ◌∙◌}
use Rattle.std.specs.BTreeMap.{values}
use Rattle.active_map.proofs.Renewing.{RenewsUpTo, renewed, renews_past, renews_put}
use Rattle.active_map.proofs.passing.Passing.renew.Goals as goal

pub loop-activation-preserved-then-is_passing : goal.loop-activation-preserved-then-is_passing
loop-activation-preserved-then-is_passing c =
    (let all = values c.args.rows.now in
    let so_far = subst (RenewsUpTo c.args.self.now.are_own c.loop-activation.self all) c.in-Some.ensures.steps c.loop-activation.invariant in
    renews_put c.args.self.now.are_own c.loop-activation.self c.put.new.self all c.next.new.self c.in-Some.activation.now so_far c.put.ensures.whole
    c.put.ensures.wider c.put.ensures.its c.put.ensures.own)

pub loop-activation-preserved : goal.loop-activation-preserved
loop-activation-preserved c =
    (let all = values c.args.rows.now in
    let so_far = subst (RenewsUpTo c.args.self.now.are_own c.loop-activation.self all) c.in-Some.ensures.steps c.loop-activation.invariant in
    renews_past c.args.self.now.are_own c.loop-activation.self all c.next.new.self c.in-Some.activation.now so_far (sym c.is_passing.ensures ∙ c.if-is_passing.false))
