use Rattle.poad_answer.proofs.core_answerer.CoreAnswerer.answer.Goals as goal

pub returns-clause-fits : goal.returns-clause-fits
returns-clause-fits c = record {
  serving = c.answer_call-answered.ensures.serving;
  legal = record {
    legal = c.keeps_laws.ensures.legal;
    lifetime = c.keeps_laws.ensures.lifetime;
    undone = c.keeps_laws.ensures.undone;
    updates = c.keeps_laws.ensures.updates;
  };
}
