use Rattle.std.proofs.Common.{◌==◌, find, ap, ◌∙◌}
use Rattle.active_map.specs.Tables.{Table}
use Rattle.active_map.proofs.RowsKept.{row_found}
use Rattle.active_map.proofs.activations.Activations.numbered.Goals as goal

pub returns : goal.returns
returns c =
    c.get.ensures.value ∙ row_found c.args.number c.self.inside.rows.entries c.self.invariant.table.keyed
    ∙ ap (λ (t : Table). find (λ a. a.number == c.args.number) t.kept) c.self.view_is
