use Rattle.std.proofs.lemmas.Bool.{false≢true}
use Rattle.std.proofs.Common.{sym, ◌∙◌}
use Rattle.object_key.proofs.Keys.{no_lifespan, oid_is_left, nothing_left}
use Rattle.object_key.proofs.viewing.view_whole.Goals as goal

pub returns-in_err-lifespan-clause-bad : goal.returns-in_err-lifespan-clause-bad
returns-in_err-lifespan-clause-bad c =
    rw c.from_residual-in_err-lifespan.ensures (no_lifespan _ _ (sym c.new-unread.ensures ∙ c.in_ok-pass_mark.ensures.some) c.in_err-lifespan.ensures.none)

pub returns-in_err-oid-clause-bad : goal.returns-in_err-oid-clause-bad
returns-in_err-oid-clause-bad c =
    rw c.from_residual-in_err-oid.ensures (λ key fits spelled. c.in_err-oid.ensures.none _ _
    (oid_is_left _ _ _ _ _ _ (sym c.new-unread.ensures ∙ c.in_ok-pass_mark.ensures.some) c.in_ok-lifespan.ensures.some c.in_ok-path.ensures.some key fits spelled))

pub returns-then-not-is_empty-clause-bad : goal.returns-then-not-is_empty-clause-bad
returns-then-not-is_empty-clause-bad c = λ key fits spelled. absurd (false≢true (sym c.if-not-is_empty.true ∙ c.is_empty.ensures.1
    (nothing_left _ _ _ _
    (oid_is_left _ _ _ _ _ _ (sym c.new-unread.ensures ∙ c.in_ok-pass_mark.ensures.some) c.in_ok-lifespan.ensures.some c.in_ok-path.ensures.some key fits spelled)
    c.in_ok-oid.ensures.some)))
