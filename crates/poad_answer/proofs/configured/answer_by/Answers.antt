use Rattle.poad_answer.specs.Answering.{served}
use Rattle.poad_answer.proofs.configured.answer_by.Goals as goal

pub returns-in-Ok-clause-answers : goal.returns-in-Ok-clause-answers
returns-in-Ok-clause-answers g c = served c.in-Ok.config c.in-Ok.ensures.named c.answer.ensures.answers
