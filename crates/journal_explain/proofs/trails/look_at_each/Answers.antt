use Rattle.std.proofs.Common.{arith}
use Rattle.journal_explain.specs.Watching.{Looks}
use Rattle.journal_explain.proofs.Going.{gone_one, gone_whole}
use Rattle.journal_explain.proofs.trails.look_at_each.Goals as goal

pub loop-trail-preserved : goal.loop-trail-preserved
loop-trail-preserved c =
    gone_one (Looks c.args.run.now c.args.place c.args.origins.now) c.loop-trail.trail-index c.args.trails.now.items c.loop-trail.trail-items c.trail-item.result c.look.new.trail
    (let low = c.loop-trail-test.true in let long = c.loop-trail.auto.trail-items in omega (arith, low, long)) c.loop-trail.invariant
    c.in_ok-look.ensures

pub returns : goal.returns
returns c =
    gone_whole (Looks c.args.run.now c.args.place c.args.origins.now) c.loop-trail.trail-index c.args.trails.now.items c.loop-trail.trail-items c.args.trails.now.len
    (let high = c.loop-trail-test.false in let long = c.loop-trail.auto.trail-items in omega (arith, high, long))
    (let ok = c.args.trails.now.ok.0 in omega (arith, ok)) c.loop-trail.invariant
