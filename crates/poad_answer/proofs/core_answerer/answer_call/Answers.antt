-- The call arrived, or is refused.
use Rattle.poad_answer.proofs.Worked.{arrived_gives, refused_so, serving_refused}
use Rattle.poad_answer.proofs.core_answerer.answer_call.Goals as goal

pub returns-in-Ok-serve_arrived-clause-answers : goal.returns-in-Ok-serve_arrived-clause-answers
returns-in-Ok-serve_arrived-clause-answers c =
    arrived_gives c.args.call c.args.size c.args.core.now c.arrive.new.self c.serve_arrived.new.core c.args.replies.now.items
    c.serve_arrived.new.replies.items c.in-Ok.ensures.1 c.in-Ok.ensures.2 c.in-Ok-serve_arrived.ensures.gives

pub returns-in-Err-clause-answers : goal.returns-in-Err-clause-answers
returns-in-Err-clause-answers c = refused_so c.in-Err.fault c.args.call c.args.size c.args.core.now c.arrive.new.self _ c.in-Err.ensures

pub returns-in-Err-clause-serving : goal.returns-in-Err-clause-serving
returns-in-Err-clause-serving c = serving_refused c.in-Err.fault c.args.call c.args.size c.args.core.now c.arrive.new.self c.in-Err.ensures c.requires.serving
