use Rattle.journal_explain.proofs.Heard.{heard_step}
use Rattle.journal_explain.proofs.lines.hear_lines.Goals as goal

pub loop-front-preserved : goal.loop-front-preserved
loop-front-preserved c =
    heard_step c.args.first c.args.text.now c.args.explainer.now c.loop-front.line c.loop-front.rest.now c.loop-front.explainer c.loop-front.invariant
    c.in-Some.front.now c.in-Some.after.now c.in_ok-entry.entry c.take.new.self c.in-Some.ensures.lines c.in-Some.ensures.shorter
    c.in_ok-entry.ensures.value c.in_ok-entry.ensures.text c.in_ok-take.ensures
