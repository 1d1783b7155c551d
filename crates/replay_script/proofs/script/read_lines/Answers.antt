use Rattle.std.proofs.Common.{◌∙◌, false, sym}
use Rattle.replay_script.proofs.Lines.{line_read, lines_step}
use Rattle.replay_script.proofs.script.read_lines.Goals as goal

pub loop-front-preserved : goal.loop-front-preserved
loop-front-preserved c =
    lines_step _ _ _ _ _ _ _ _ _ _ _ c.in_ok-line.line c.loop-front.invariant c.in-Some.ensures.lines c.in-Some.ensures.shorter c.in_ok-line.ensures
    (sym c.allow.ensures ∙ c.if-not-allow.false) c.in_ok-enter_line.ensures.rows c.in_ok-enter_line.ensures.names c.in_ok-enter_line.ensures.steps

pub returns-then-not-allow : goal.returns-then-not-allow
returns-then-not-allow c =
    line_read _ _ _ _ _ _ _ c.in-Some.after.now c.in_ok-line.line false c.loop-front.invariant c.in-Some.ensures.lines c.in_ok-line.ensures
    (sym c.allow.ensures ∙ c.if-not-allow.true)
