use Rattle.history_words.proofs.laws.activators_are_told.Goals as goal
use Rattle.history_words.proofs.FlagsAre.{cleanup_is, remaining_is, all_told}

pub returns-clause-cleanup : goal.returns-clause-cleanup
returns-clause-cleanup c = λ conf run limit h given alone within legal. cleanup_is conf run limit given alone within h legal

pub returns-clause-remaining : goal.returns-clause-remaining
returns-clause-remaining c = λ conf run limit h given alone within legal. remaining_is conf run limit given alone within h legal

pub returns-clause-told : goal.returns-clause-told
returns-clause-told c = λ conf run limit h given alone within legal. all_told conf run limit given alone within h legal
