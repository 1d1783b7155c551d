use Rattle.journal_audit.proofs.LinesRead.{lines_step}
use Rattle.journal_audit.proofs.lines.take_lines.Goals as goal

pub loop-front-preserved : goal.loop-front-preserved
loop-front-preserved c =
    lines_step c.args.first c.args.text.now c.args.watch.now c.loop-front.line c.loop-front.rest.now c.loop-front.watch c.loop-front.invariant
    c.in-Some.front.now c.in-Some.after.now c.in_ok-entry.entry c.take.new.self c.in-Some.ensures.lines c.in-Some.ensures.shorter
    c.in_ok-entry.ensures.value c.in_ok-entry.ensures.text c.in_ok-take.ensures.takes c.in_ok-take.ensures.watches c.in_ok-take.ensures.link
