use Rattle.std.proofs.Common.{◌≡◌, subst}
use Rattle.std.specs.Prelude.{IfOk}
use Rattle.core_standing.specs.Seen.{seen}
use Rattle.core_turns.proofs.GoingOn.{going_same}
use Rattle.core_turns.specs.Told.{history}
use Rattle.core_turns.proofs.known.Known.going_on.Goals as goal

pub returns-clause-next : goal.returns-clause-next
returns-clause-next c =
    (let known = c.args.self.now in
    subst (λ o. IfOk c.going_on.result (λ entry. entry ≡ o))
    (going_same known.config.now known.run (history known) (seen known.standing.now) c.requires.told.stands c.args.worker c.args.stage c.requires.begun)
    c.going_on.ensures.next)
