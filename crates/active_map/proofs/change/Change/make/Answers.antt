use Rattle.std.proofs.Common.{refl, sym, ap, ◌∙◌}
use Rattle.active_map.specs.Made.{flown, made}
use Rattle.active_map.proofs.change.Change.make.Goals as goal

pub returns-in-LetOut : goal.returns-in-LetOut
returns-in-LetOut c = c.let_out.ensures (flown c.in-LetOut.flights.now) refl ∙ ap (λ k. made k c.args.activation.now) (sym c.in-LetOut.is)
