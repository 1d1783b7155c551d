use Rattle.giop_msg.specs.Reading.{HasContexts}
use Rattle.giop_msg.proofs.contexts.pass_contexts.Given as goal

abbrev pub invariant-loop : goal.invariant-loop
invariant-loop l = HasContexts l.counter l.fn.view l.view
