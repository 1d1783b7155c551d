use Rattle.poad_answer.proofs.Whole.{calm_well, names_well}
use Rattle.poad_answer.proofs.names_run.names.Goals as goal

pub returns-clause-complete : goal.returns-clause-complete
returns-clause-complete g c reads writes whole =
    calm_well c.serve_names.result (names_well c.serve_names.result _ _ _ _ whole c.serve_names.ensures.names)
    (λ is. reads (c.serve_names.ensures.read.rose is)) (λ is. writes (c.serve_names.ensures.written.rose is))
