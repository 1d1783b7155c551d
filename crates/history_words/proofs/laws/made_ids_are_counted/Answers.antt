use Rattle.history_words.proofs.laws.made_ids_are_counted.Goals as goal
use Rattle.history_words.proofs.Made.{made_is, numbered_is, made_once}
use Rattle.history_words.proofs.AnswersAre.{all_answered, all_once}

pub returns-clause-made : goal.returns-clause-made
returns-clause-made c = made_is

pub returns-clause-numbered : goal.returns-clause-numbered
returns-clause-numbered c = λ conf run limit h given within legal. numbered_is conf run limit given within h legal

pub returns-clause-answered : goal.returns-clause-answered
returns-clause-answered c = λ conf run limit h given within legal. all_answered conf run limit given within h legal

pub returns-clause-once : goal.returns-clause-once
returns-clause-once c = λ conf run limit h given within legal. made_once conf run limit given within h legal

pub returns-clause-apart : goal.returns-clause-apart
returns-clause-apart c = λ conf run limit h given within legal. all_once conf run limit given within h legal
