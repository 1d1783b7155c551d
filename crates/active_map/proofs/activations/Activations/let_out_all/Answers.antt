use Rattle.std.proofs.Common.{true, map, refl, sym, ap, subst, ◌∙◌}
use Rattle.std.specs.Map.{values_of}
use Rattle.std.proofs.Common.{[]}
use Rattle.history_standing.specs.Ends.{is_left, let_out}
use Rattle.history_standing.specs.Standings.{Standing}
use Rattle.active_map.specs.Tables.{Table, IsIndexed, Covers}
use Rattle.active_map.proofs.IdsKept.{indexed_each}
use Rattle.active_map.proofs.Covering.{covers_each, stays_in}
use Rattle.active_map.proofs.Moving.{map_still, still_stays}
use Rattle.active_map.specs.Noted.{IsNoted}
use Rattle.active_map.proofs.NotedKept.{noted_unsure, own_out}
use Rattle.active_map.proofs.RowsKept.{keeps_where, table_each, values_each, still_rows, tabled}
use Rattle.active_map.proofs.activations.Activations.let_out_all.Goals as goal

pub invariant_of-self : goal.invariant_of-self
invariant_of-self c =
    (let t = c.self.inside in
    let s : Standing = record { nodes = []; count = 0; made = 0; flights = c.args.flights.now; activations = [] } in
    let f = let_out c.args.config.now s in
    let keeps = keeps_where (is_left c.args.config.now s) (λ a. record a { out = true })
    (record { number = λ x. refl; adapter = λ x. refl; oid = λ x. refl }) in
    record {
      table =
          table_each t.forgotten t.moving c.count_moving-self-inside.result t.rows.entries c.let_all_out.new.rows.entries f c.self.invariant.table
          (c.let_all_out.ensures s refl) keeps c.count_moving-self-inside.ensures;
      indexed =
          subst (IsIndexed t.ids) (sym (ap values_of (c.let_all_out.ensures s refl) ∙ values_each f t.rows.entries))
          (indexed_each t.ids f keeps (values_of t.rows.entries) c.self.invariant.indexed);
      covered =
          subst (Covers t.leaving.keys) (sym (ap values_of (c.let_all_out.ensures s refl) ∙ values_each f t.rows.entries))
          (covers_each t.leaving.keys f (values_of t.rows.entries) keeps (stays_in c.args.config.now s) c.self.invariant.covered);
      noted =
          subst (IsNoted c.unsure.new.self) (sym (ap values_of (c.let_all_out.ensures s refl) ∙ values_each f t.rows.entries))
          (noted_unsure f (values_of t.rows.entries) t.passing c.unsure.new.self (own_out c.args.config.now s) c.unsure.ensures.whole
          c.unsure.ensures.own c.self.invariant.noted);
    })

pub returns-then-self-gt0 : goal.returns-then-self-gt0
returns-then-self-gt0 c = λ s flown.
    (let t = c.self.inside in
    let f = let_out c.args.config.now s in
    ap (tabled t.forgotten) (ap values_of (c.let_all_out.ensures s flown) ∙ values_each f t.rows.entries)
    ∙ ap (λ (u : Table). tabled u.forgotten (map f u.kept)) c.self.view_is)

pub returns-else-self-gt0 : goal.returns-else-self-gt0
returns-else-self-gt0 c = λ s flown.
    (let t = c.self.inside in
    let f = let_out c.args.config.now s in
    let none = still_rows t.forgotten t.moving t.rows.entries c.self.invariant.table c.if-self-gt0.false in
    sym c.self.view_is ∙ ap (tabled t.forgotten) (sym (map_still f (λ a still. still_stays a still c.args.config.now s) (values_of t.rows.entries) none))
    ∙ ap (λ (u : Table). tabled u.forgotten (map f u.kept)) c.self.view_is)
