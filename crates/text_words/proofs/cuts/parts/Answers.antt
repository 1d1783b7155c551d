use Rattle.std.proofs.lemmas.Option.{MatchOption-at_some, MatchOption-at_none}
use Rattle.text_words.proofs.Cutting.{parts_further, parts_ended}
use Rattle.text_words.proofs.cuts.parts.Goals as goal

pub returns-in_default : goal.returns-in_default
returns-in_default c =
    rw c.in_ok-push.ensures.items
    (parts_ended _ _ _ _ _ c.loop-found.invariant (MatchOption-at_none _ _ c.in_default.is c.split_front.ensures.parts) c.split_front.ensures.clear)

pub loop-found-preserved : goal.loop-found-preserved
loop-found-preserved c =
    rw c.in_ok-push.ensures.items
    (parts_further _ _ _ _ _ _ c.loop-found.invariant (MatchOption-at_some _ _ _ c.in-Some.is c.split_front.ensures.parts) c.split_front.ensures.clear)
