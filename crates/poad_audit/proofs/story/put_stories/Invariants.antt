use Rattle.std.proofs.Common.{◌≡◌, ◌++◌, drop}
use Rattle.poad_audit.specs.Story.{lines_by, story_text}
use Rattle.poad_audit.proofs.story.put_stories.Given as goal

abbrev pub invariant-loop-trail : goal.invariant-loop-trail
invariant-loop-trail l = l.out.items ++ lines_by (story_text l.line) (drop l.trail-index l.trails) ≡ l.initial.out.items ++ lines_by (story_text l.line) l.trails
