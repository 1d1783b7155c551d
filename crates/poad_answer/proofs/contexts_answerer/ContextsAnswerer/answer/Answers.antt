use Rattle.poad_answer.proofs.Named.{call_gives, named_headed}
use Rattle.poad_answer.proofs.contexts_answerer.ContextsAnswerer.answer.Goals as goal

pub serve-requires : goal.serve-requires
serve-requires c = named_headed c.args.call c.requires.headed

pub returns-in-Ok-clause-answers : goal.returns-in-Ok-clause-answers
returns-in-Ok-clause-answers c = call_gives c.args.call c.args._size c.args.self.now c.serve.new.self _ _ c.in-Ok.ensures.ok
