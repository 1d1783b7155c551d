use Rattle.std.proofs.Common.{◌&&◌, find, ap, ◌∙◌}
use Rattle.std.specs.BTreeMap.{get}
use Rattle.std.specs.List.{filter_map}
use Rattle.std.specs.Ordering.{nat_cmp}
use Rattle.history_standing.specs.Standings.{is_active, is_of}
use Rattle.active_map.specs.Tables.{Table}
use Rattle.active_map.proofs.IdsKept.{first_of}
use Rattle.active_map.proofs.activations.Activations.active_of.Goals as goal

pub returns : goal.returns
returns c =
    (let t = c.self.inside in
    c.first_active.ensures
    ∙ ap (λ ns. find (is_active) (filter_map (get nat_cmp t.rows) ns)) c.numbers_of.ensures
    ∙ first_of t.ids t.rows.entries c.self.invariant.table.keyed c.self.invariant.table.ordered c.self.invariant.indexed c.args.adapter c.args.oid.now
    (is_active)
    ∙ ap (λ (u : Table). find (λ a. is_of c.args.adapter c.args.oid.now a && is_active a) u.kept) c.self.view_is)
