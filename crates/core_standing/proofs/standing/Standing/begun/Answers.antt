use Rattle.std.proofs.Common.{◌≡◌, subst}
use Rattle.std.specs.Prelude.{IfOk}
use Rattle.core_standing.proofs.Behind.{length_behind}
use Rattle.core_standing.proofs.standing.Standing.begun.Goals as goal

pub returns-clause-begun : goal.returns-clause-begun
returns-clause-begun c =
    (let t = c.args.self.now.activations in
    subst (λ n. IfOk c.begun.result (λ begun. begun ≡ n)) (length_behind t.forgotten t.kept) c.begun.ensures)
