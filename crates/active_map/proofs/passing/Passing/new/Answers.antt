use Rattle.active_map.proofs.passing.Passing.new.Goals as goal

pub returns : goal.returns
returns c = record { passed = λ whole a there. absurd there; owned = λ own a there. absurd there }
