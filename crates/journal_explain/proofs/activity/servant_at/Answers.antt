use Rattle.journal_explain.proofs.Servable.{servant_is}
use Rattle.journal_explain.proofs.activity.servant_at.Goals as goal

pub returns : goal.returns
returns c = λ servable.
    servant_is c.args.run.now c.state-state.result.now c.state-state.ensures.state c.keeps_laws.ensures.runs c.args.number servable
    c.config-2.result.now c.config-2.ensures c.in_ok-found.found c.in_ok-found.ensures c.in_ok-servant.servant c.in_ok-servant.ensures
