use Rattle.std.proofs.Common.{arith}
use Rattle.journal_explain.specs.Watching.{Notes}
use Rattle.journal_explain.proofs.Going.{gone_one, gone_whole}
use Rattle.journal_explain.proofs.trails.note_each.Goals as goal

pub loop-trail-preserved : goal.loop-trail-preserved
loop-trail-preserved c =
    gone_one (Notes c.args.run.now c.args.next.now.entry.now c.args.next.now.place c.args.next.now.begun c.args.origins.now) c.loop-trail.trail-index c.args.trails.now.items c.loop-trail.trail-items c.trail-item.result c.note.new.trail
    (let low = c.loop-trail-test.true in let long = c.loop-trail.auto.trail-items in omega (arith, low, long)) c.loop-trail.invariant
    c.in_ok-note.ensures

pub returns : goal.returns
returns c =
    gone_whole (Notes c.args.run.now c.args.next.now.entry.now c.args.next.now.place c.args.next.now.begun c.args.origins.now) c.loop-trail.trail-index c.args.trails.now.items c.loop-trail.trail-items c.args.trails.now.len
    (let high = c.loop-trail-test.false in let long = c.loop-trail.auto.trail-items in omega (arith, high, long))
    (let ok = c.args.trails.now.ok.0 in omega (arith, ok)) c.loop-trail.invariant
