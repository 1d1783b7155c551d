use Rattle.std.proofs.Common.{◌≡◌, ◌∙◌, false, sym, subst}
use Rattle.std.specs.Map.{values_of}
use Rattle.history_standing.specs.Changes.{is_elsewhere}
use Rattle.active_map.specs.Tables.{Table}
use Rattle.active_map.proofs.NotedKept.{own_alone}
use Rattle.active_map.proofs.activations.Activations.is_alone.Goals as goal

pub returns-then-self : goal.returns-then-self
returns-then-self c = λ is.
    (let a = c.args.activation.now in
    subst (λ (u : Table). is_elsewhere u.kept a ≡ false) c.self.view_is
    (own_alone a (values_of c.self.inside.rows.entries) (sym c.has_own.ensures ∙ is) (c.self.invariant.noted.owned c.if-self.true)))
