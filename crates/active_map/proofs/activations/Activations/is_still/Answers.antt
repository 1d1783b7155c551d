use Rattle.std.proofs.Common.{◌==◌, not, ap, ◌∙◌}
use Rattle.std.specs.List.{list_any}
use Rattle.std.specs.Map.{values_of}
use Rattle.active_map.specs.Tables.{Table, is_moving}
use Rattle.active_map.proofs.RowsKept.{none_moving}
use Rattle.active_map.proofs.activations.Activations.is_still.Goals as goal

pub returns : goal.returns
returns c =
    ap (λ n. n == 0) c.self.invariant.table.counted ∙ none_moving (values_of c.self.inside.rows.entries)
    ∙ ap (λ (t : Table). not (list_any is_moving t.kept)) c.self.view_is
