use Rattle.core_state.proofs.Stated.{answers_state}
use Rattle.core_run.specs.Agrees.{history, opened_in}
use Rattle.core_run.proofs.stepping.asked.Goals as goal

pub next-requires-clause-told : goal.next-requires-clause-told
next-requires-clause-told c =
    (let i = c.args.inside.now in
    let agrees = c.requires.kept.agrees in
    record {
      called = agrees.tables.calls;
      queued = agrees.tables.queue;
      stands = answers_state i.config i.run i.limit (opened_in i) (history i) i.state agrees.runs agrees.state;
      set = agrees.state.set;
    })
