-- The id and the octet were read, which is a boolean.
use Rattle.giop_msg.proofs.Openings.{no_asked_flags}
use Rattle.giop_msg.proofs.opening.view_asked.Goals as goal

pub returns-in-None-clause-bad : goal.returns-in-None-clause-bad
returns-in-None-clause-bad c =
    no_asked_flags _ _ _ _ _ c.in_ok-id.ensures.ok c.in_ok-asked.ensures.ok (c.flags_of.ensures.none c.in-None.is)
