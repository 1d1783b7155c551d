use Rattle.std.proofs.Common.{◌∙◌, map, refl, ap}
use Rattle.active_map.specs.Made.{flown}
use Rattle.history_standing.specs.Ends.{let_out}
use Rattle.active_map.specs.Tables.{Table}
use Rattle.active_map.proofs.OneByOne.{out_before}
use Rattle.active_map.proofs.activations.Activations.let_one_out.Goals as goal

pub returns-in-Some-clause-kept : goal.returns-in-Some-clause-kept
returns-in-Some-clause-kept c = λ s flown.
    (let f = let_out c.args.config.now s in
    ap (λ (u : Table). map f u.kept) (c.let_out_at.ensures s flown)
    ∙ out_before c.args.config.now s c.in-Some.number.now c.args.self.now.kept)

pub returns-in-Some-clause-forgotten : goal.returns-in-Some-clause-forgotten
returns-in-Some-clause-forgotten c = ap (λ (u : Table). u.forgotten) (c.let_out_at.ensures (flown c.args.flights.now) refl)
