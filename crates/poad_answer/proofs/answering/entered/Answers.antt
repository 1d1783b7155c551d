use Rattle.poad_answer.proofs.answering.entered.Goals as goal

pub returns-clause-legal : goal.returns-clause-legal
returns-clause-legal c = record {
  legal = c.keeps_laws.ensures.legal;
  lifetime = c.keeps_laws.ensures.lifetime;
  undone = c.keeps_laws.ensures.undone;
  updates = c.keeps_laws.ensures.updates;
}
