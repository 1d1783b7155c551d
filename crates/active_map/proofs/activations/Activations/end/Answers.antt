use Rattle.std.proofs.Common.{map, sym, ap, subst, ◌∙◌}
use Rattle.std.specs.Map.{values_of}
use Rattle.active_map.specs.Endings.{ended}
use Rattle.active_map.specs.Tables.{Table, Covers, IsIndexed}
use Rattle.active_map.proofs.IdsKept.{indexed_each}
use Rattle.active_map.proofs.Covering.{covers_ended, keeps_ended}
use Rattle.active_map.specs.Noted.{IsNoted}
use Rattle.active_map.proofs.NotedKept.{noted_each, own_ended, passing_ended}
use Rattle.active_map.proofs.RowsKept.{table_each, values_each, tabled}
use Rattle.active_map.proofs.activations.Activations.end.Goals as goal

pub invariant_of-self : goal.invariant_of-self
invariant_of-self c =
    (let was = c.self.invariant in
    record { table = was.table; indexed = was.indexed; covered = λ a there leaves. c.enter_ended.ensures.wider a.number (was.covered a there leaves); noted = was.noted })

pub invariant_of-self-2 : goal.invariant_of-self-2
invariant_of-self-2 c =
    (let t = c.self.inside in
    let f = ended c.args.ending in
    let each = ap values_of c.end_all.ensures ∙ values_each f t.rows.entries in
    record {
      table =
          table_each t.forgotten t.moving c.count_moving-self-inside.result t.rows.entries c.end_all.new.rows.entries f c.self.invariant.table c.end_all.ensures
          (keeps_ended c.args.ending) c.count_moving-self-inside.ensures;
      indexed = subst (IsIndexed t.ids) (sym each) (indexed_each t.ids f (keeps_ended c.args.ending) (values_of t.rows.entries) c.self.invariant.indexed);
      covered =
          subst (Covers c.enter_ended.new.leaving.keys) (sym each)
          (covers_ended c.args.ending t.leaving.keys c.enter_ended.new.leaving.keys (values_of t.rows.entries) c.enter_ended.ensures.wider
          c.in_ok-enter_ended.ensures.ok c.self.invariant.covered);
      noted = subst (IsNoted t.passing) (sym each) (noted_each f (values_of t.rows.entries) t.passing (keeps_ended c.args.ending)
          (passing_ended c.args.ending) (own_ended c.args.ending) c.self.invariant.noted);
    })

pub returns-clause-ok : goal.returns-clause-ok
returns-clause-ok c =
    (let t = c.self.inside in
    let f = ended c.args.ending in
    ap (tabled t.forgotten) (ap values_of c.end_all.ensures ∙ values_each f t.rows.entries)
    ∙ ap (λ (u : Table). tabled u.forgotten (map f u.kept)) c.self.view_is)
