use Rattle.std.proofs.Common.{◌&&◌, find, ap, ◌∙◌}
use Rattle.std.specs.BTreeMap.{get}
use Rattle.std.specs.List.{filter_map}
use Rattle.std.specs.Ordering.{nat_cmp}
use Rattle.history_standing.specs.Standings.{is_of}
use Rattle.active_map.specs.Live.{is_live}
use Rattle.active_map.specs.Tables.{Table}
use Rattle.active_map.proofs.IdsKept.{first_of}
use Rattle.active_map.proofs.activations.Activations.live_of.Goals as goal

pub returns : goal.returns
returns c =
    (let t = c.self.inside in
    c.first_live.ensures
    ∙ ap (λ ns. find (is_live c.args.config.now) (filter_map (get nat_cmp t.rows) ns)) c.numbers_of.ensures
    ∙ first_of t.ids t.rows.entries c.self.invariant.table.keyed c.self.invariant.table.ordered c.self.invariant.indexed c.args.adapter c.args.oid.now
    (is_live c.args.config.now)
    ∙ ap (λ (u : Table). find (λ a. is_of c.args.adapter c.args.oid.now a && is_live c.args.config.now a) u.kept) c.self.view_is)
