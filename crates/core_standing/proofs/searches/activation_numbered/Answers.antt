use Rattle.std.proofs.Common.{◌∙◌, ◌==◌, sym, arith}
use Rattle.std.proofs.lemmas.Bool.{eqb-true, false_from_ne_true}
use Rattle.core_standing.specs.Seen.{forgotten}
use Rattle.core_standing.proofs.Behind.{find_behind}
use Rattle.core_standing.proofs.searches.activation_numbered.Goals as goal

pub returns : goal.returns
returns c =
    (let s = c.args.standing.now in
    c.numbered.ensures
    ∙ sym (find_behind (λ a. a.number == c.args.number)
    (false_from_ne_true (forgotten.number == c.args.number)
    (λ same. (let e = eqb-true forgotten.number c.args.number same in let low = c.ranges.number.fits in omega (arith, e, low)))) s.activations.forgotten
    s.activations.kept))
