use Rattle.core_run.proofs.Turned.{next_with, told_comes}
use Rattle.core_run.proofs.turning.told.Goals as goal

pub advance-requires : goal.advance-requires
advance-requires c =
    let asked = c.requires.asked in
    (asked.0, asked.1, asked.2, next_with c.args.config.now c.args.run asked.0 asked.1 asked.2 c.args.coming.now c.args.state.now asked.3 _ c.call_in.ensures)

pub returns-clause-ok : goal.returns-clause-ok
returns-clause-ok c = λ limit opened past asked.
    c.in_ok-advance.ensures.ok limit opened past
    (next_with c.args.config.now c.args.run limit opened past c.args.coming.now c.args.state.now asked _ c.call_in.ensures)

pub returns-clause-decides : goal.returns-clause-decides
returns-clause-decides c = λ limit opened past asked.
    c.in_ok-decision.ensures.decides c.args.run opened past
    (told_comes c.args.config.now c.args.run limit opened past c.args.coming.now c.args.state.now asked c.requires.kind)
