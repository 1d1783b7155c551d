use Rattle.poad_answer.specs.Serving.{IsServing}
use Rattle.poa_history.specs.Life.{Life}
use Rattle.poad_answer.specs.Serving.{Works}
use Rattle.poad_answer.proofs.turns.take_turns.Given as goal

-- the turns so far, with those that follow, are all
abbrev pub invariant-loop : goal.invariant-loop
invariant-loop l = record {
  works : (last : Life) → Works l.core last → Works l.fn.core last;
  serving : IsServing l.core.history;
}
