use Rattle.journal_explain.specs.Watching.{Notes}
use Rattle.journal_explain.proofs.Going.{GoneTo}
use Rattle.journal_explain.proofs.trails.note_each.Given as goal

abbrev pub invariant-loop-trail : goal.invariant-loop-trail
invariant-loop-trail l = GoneTo (Notes l.run l.next.entry.now l.next.place l.next.begun l.origins) l.trail-index l.fn.trails.items l.trail-items
