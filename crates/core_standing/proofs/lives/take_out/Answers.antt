use Rattle.std.proofs.Common.{◌∙◌, true, ap}
use Rattle.history_standing.specs.Changes.{at_number, is_elsewhere}
use Rattle.core_standing.specs.Seen.{seen}
use Rattle.core_standing.proofs.Still.{changed_each, still_taken, elsewhere_behind, takes_alike}
use Rattle.core_standing.proofs.lives.take_out.Goals as goal

pub returns : goal.returns
returns c =
    (let s = c.args.standing.now in
    changed_each s _ (at_number c.args.number (λ a. record a { out = true; remaining = is_elsewhere (seen s).activations a }))
    (still_taken c.args.number (seen s).activations)
    (c.take_out.ensures
    ∙ ap (λ kept. record s.activations { kept = kept })
    (takes_alike c.args.number s.activations.kept (seen s).activations (elsewhere_behind s.activations.forgotten s.activations.kept) s.activations.kept)))
