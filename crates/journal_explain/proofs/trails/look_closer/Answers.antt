use Rattle.std.proofs.Common.{ap, ◌∙◌}
use Rattle.journal_explain.specs.Watching.{told_in}
use Rattle.journal_explain.proofs.Looked.{looked}
use Rattle.journal_explain.proofs.trails.look_closer.Goals as goal

pub returns : goal.returns
returns c =
    let life = c.args.run.now in
    let rows = c.args.origins.now in
    let noted = c.in_ok-note.ensures in
    let after = c.wait_for.ensures in
    looked life c.args.place rows c.args.trail.now c.note.new.self c.wait_for.new.self c.ended-ends.result c.in_ok-wait.wait
    c.in_ok-tenure.tenure c.ended-ends.ensures noted.steps noted.name noted.call noted.adapter noted.wait noted.server c.in_ok-wait.ensures
    (c.in_ok-tenure.ensures ∙ ap (told_in life rows) c.holder.ensures) after.name after.call after.adapter after.server c.wait_for.result
    after.steps after.wait
