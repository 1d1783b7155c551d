use Rattle.poad_audit.proofs.Explained.{explains_read}
use Rattle.poad_audit.proofs.explaining.explain_files.Goals as goal

pub returns-in-Ok-take-clause-explains : goal.returns-in-Ok-take-clause-explains
returns-in-Ok-take-clause-explains g c = explains_read c.args.file.now c.args.journal.now c.args.limit c.args.asked c.in-Ok.config _ _ _ c.in-Ok.ensures.taken
    c.take_config.ensures.contents c.take.ensures.contents c.in-Ok-take.content _ _ c.in-Ok-take.ensures.taken c.explain.result _ c.as_slice.ensures
    c.explain.ensures.explains
