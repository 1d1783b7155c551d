use Rattle.poa_history.proofs.laws.gone_have_ended.Goals as goal
use Rattle.poa_history.proofs.GoneIs.{ends_where, stands_ungone, emptied_where}

pub returns-clause-ends : goal.returns-clause-ends
returns-clause-ends c = ends_where

pub returns-clause-stays : goal.returns-clause-stays
returns-clause-stays c = stands_ungone

pub returns-clause-emptied : goal.returns-clause-emptied
returns-clause-emptied c = emptied_where
