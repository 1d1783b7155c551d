use Rattle.journal_explain.specs.Watching.{Looks}
use Rattle.journal_explain.proofs.Going.{GoneTo}
use Rattle.journal_explain.proofs.trails.look_at_each.Given as goal

abbrev pub invariant-loop-trail : goal.invariant-loop-trail
invariant-loop-trail l = GoneTo (Looks l.run l.place l.origins) l.trail-index l.fn.trails.items l.trail-items
