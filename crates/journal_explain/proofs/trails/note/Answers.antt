use Rattle.std.proofs.Common.{sym, ◌∙◌}
use Rattle.journal_explain.proofs.Unspoken.{unspoken}
use Rattle.journal_explain.proofs.trails.note.Goals as goal

pub returns : goal.returns
returns c =
    unspoken c.args.run.now c.args.next.now.entry.now c.args.next.now.place c.args.next.now.begun c.args.origins.now c.args.trail.now c.serve.new.trail
    (λ follows. sym (c.speaks.ensures follows) ∙ c.if-speaks.false) c.serve.ensures
