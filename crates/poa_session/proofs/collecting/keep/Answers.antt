use Rattle.std.proofs.Common.{subst, sym}
use Rattle.poa_session.specs.Giving.{AreGiven}
use Rattle.poa_session.proofs.Collects.{given_behind}
use Rattle.poa_session.proofs.collecting.keep.Goals as goal

pub returns-clause-given : goal.returns-clause-given
returns-clause-given c = λ able.
    subst AreGiven (sym c.in_ok-push.ensures.items) (given_behind c.args.given.now.items c.args.collected able c.requires)
