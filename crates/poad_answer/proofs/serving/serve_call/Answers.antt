use Rattle.poad_answer.proofs.Serves.{does_refused}
use Rattle.poad_answer.proofs.serving.serve_call.Goals as goal

pub returns-in-Err-clause-done : goal.returns-in-Err-clause-done
returns-in-Err-clause-done g c =
    does_refused g.A.Answerer.meaning c.in-Err.fault c.stop_of.result c.args.call c.args.size _ _ _ _ c.stop_of.ensures c.in-Err.ensures.answers
