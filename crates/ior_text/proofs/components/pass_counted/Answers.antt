-- Where the count or one of the components can't be read there are none.
use Rattle.ior_text.proofs.Refused.{on_err}
use Rattle.ior_text.proofs.CountedParts.{none_counted, none_there, counted_read}
use Rattle.ior_text.proofs.components.pass_counted.Goals as goal

pub returns-in_err-count-clause-bad : goal.returns-in_err-count-clause-bad
returns-in_err-count-clause-bad c = on_err _ (none_counted _ _ c.in_err-count.ensures.refused)

pub returns-in_err-_first-clause-bad : goal.returns-in_err-_first-clause-bad
returns-in_err-_first-clause-bad c = on_err _ (none_there _ _ _ _ c.in_ok-count.ensures.ok c.in_err-_first.ensures.bad)

pub returns-clause-components : goal.returns-clause-components
returns-clause-components c =
    let sees = c.in_ok-_first.ensures.ok in (sees.profiles, counted_read _ _ _ _ _ c.in_ok-count.ensures.ok sees.counted sees.read)
