use Rattle.cdr_core.proofs.Appending.{appended}
use Rattle.cdr_core.proofs.writer.extend.Goals as goal

pub returns-clause-ok : goal.returns-clause-ok
returns-clause-ok c =
    appended _ _ _ _ _ _ _ _ _ c.requires c.in_ok-extend_from_slice.ensures.items c.in_ok-extend_from_slice-2.ensures.items
    c.in_ok-extend_from_slice-3.ensures.items c.in_ok-extend_from_slice-4.ensures.items
