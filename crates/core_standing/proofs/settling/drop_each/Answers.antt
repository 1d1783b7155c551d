use Rattle.std.proofs.Common.{◌≡◌, ◌<◌, ◌-◌, suc, length, sym, arith}
use Rattle.core_standing.specs.Seen.{seen}
use Rattle.core_standing.proofs.Dropping.{node_kept, node_removed, node_there}
use Rattle.core_standing.proofs.settling.drop_each.Goals as goal

pub loop-i-preserved-then-not-stays : goal.loop-i-preserved-then-not-stays
loop-i-preserved-then-not-stays c =
    let next : c.loop-i.i ≡ suc (c.loop-i.i - 1) = omega arith in
    let within : c.loop-i.i - 1 < length c.args.standing.now.nodes.items = omega arith in
    node_removed c.args.config.now (seen c.args.standing.now) c.loop-i.i (c.loop-i.i - 1)
    (seen c.loop-i.standing) c.index.result.now next within c.loop-i.invariant c.index.ensures
    c.remove.new.self.items c.remove.ensures.items
    (sym (c.if-not-stays.ensures (node_there c.args.config.now (seen c.args.standing.now) c.loop-i.i (c.loop-i.i - 1)
    (seen c.loop-i.standing) c.index.result.now next within c.loop-i.invariant c.index.ensures)))

pub loop-i-preserved : goal.loop-i-preserved
loop-i-preserved c =
    let next : c.loop-i.i ≡ suc (c.loop-i.i - 1) = omega arith in
    let within : c.loop-i.i - 1 < length c.args.standing.now.nodes.items = omega arith in
    node_kept c.args.config.now (seen c.args.standing.now) c.loop-i.i (c.loop-i.i - 1)
    (seen c.loop-i.standing) c.index.result.now next within c.loop-i.invariant c.index.ensures
    (sym (c.if-not-stays.ensures (node_there c.args.config.now (seen c.args.standing.now) c.loop-i.i (c.loop-i.i - 1)
    (seen c.loop-i.standing) c.index.result.now next within c.loop-i.invariant c.index.ensures)))
