use Rattle.std.proofs.Common.{◌≡◌, rules, sym, ◌∙◌}
use Rattle.journal_explain.proofs.Unspoken.{unchanged}
use Rattle.journal_explain.proofs.trails.look.Goals as goal

pub returns-then-not-ends : goal.returns-then-not-ends
returns-then-not-ends c =
    let same : c.in_ok-wait.wait ≡ c.args.trail.now.wait = search rules in
    unchanged c.args.run.now c.args.place c.args.origins.now c.args.trail.now (sym same ∙ c.in_ok-wait.ensures)
    (sym c.if-not-ends.ensures)
