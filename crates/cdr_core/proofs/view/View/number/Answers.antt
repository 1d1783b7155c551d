use Rattle.cdr_core.proofs.Passing.{takes_split}
use Rattle.cdr_core.proofs.view.View.number.Goals as goal

pub returns-clause-ok : goal.returns-clause-ok
returns-clause-ok c =
    takes_split _ _ _ _ _ _ _ _ _ _ c.self.view_is c.padding-gap.ensures.gap c.split_at.ensures.front_len c.split_at-2.ensures.front_len
    c.split_at.ensures.by_index.0 c.split_at-2.ensures.by_index.0
