use Rattle.active_map.proofs.passing.Passing.place.Goals as goal

pub returns-then-is_passing-clause-others : goal.returns-then-is_passing-clause-others
returns-then-is_passing-clause-others c = λ n there other. c.put.ensures.wider n (c.strike.ensures.others n there other)
