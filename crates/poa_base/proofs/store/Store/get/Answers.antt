use Rattle.std.proofs.Common.{arith}
use Rattle.std.proofs.lemmas.Grind.{common_steps}
use Rattle.poa_base.proofs.Shelves.{get-shelves}
use Rattle.poa_base.proofs.store.Store.get.Goals as goal

pub returns-in_err-get : goal.returns-in_err-get
returns-in_err-get c = grind (arith, common_steps, c.self.view_is, get-shelves _ c.self.invariant c.args.path.now c.args.oid.now)

pub returns-in_err-get-2 : goal.returns-in_err-get-2
returns-in_err-get-2 c = grind (arith, common_steps, c.self.view_is, get-shelves _ c.self.invariant c.args.path.now c.args.oid.now)

pub returns : goal.returns
returns c = grind (arith, common_steps, c.self.view_is, get-shelves _ c.self.invariant c.args.path.now c.args.oid.now)
