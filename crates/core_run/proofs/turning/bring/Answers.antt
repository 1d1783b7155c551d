use Rattle.core_run.proofs.Turned.{asked_answers}
use Rattle.core_run.proofs.turning.bring.Goals as goal

pub returns-clause-brought : goal.returns-clause-brought
returns-clause-brought c = λ limit opened past asked.
    record {
      decides = c.in_ok-decision.ensures.decides limit opened past asked;
      waits = c.in_ok-wait.ensures.waits c.args.run past (asked_answers c.args.config.now c.args.run limit opened past c.args.coming.now c.args.state.now asked)
          (c.call_admitted-admits.ensures past asked.call_is);
      orders = c.in_ok-ordered.ensures.orders past (c.call_admitted-admits.ensures past asked.call_is);
      frees = c.freed_by-freed.ensures c.args.config.now c.args.run past
          (asked_answers c.args.config.now c.args.run limit opened past c.args.coming.now c.args.state.now asked) asked.begun_is;
    }
