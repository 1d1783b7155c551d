use Rattle.journal_explain.specs.Watching.{Gets}
use Rattle.journal_explain.proofs.Going.{GoneTo}
use Rattle.journal_explain.proofs.trails.give_each.Given as goal

abbrev pub invariant-loop-trail : goal.invariant-loop-trail
invariant-loop-trail l = GoneTo (Gets l.given l.place) l.trail-index l.fn.trails.items l.trail-items
