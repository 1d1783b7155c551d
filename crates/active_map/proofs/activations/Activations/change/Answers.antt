use Rattle.std.proofs.Common.{◌+◌, ◌-◌, ◌≤◌, ◌==◌, map, sym, ap, subst, ◌∙◌, arith}
use Rattle.std.specs.Map.{values_of}
use Rattle.std.specs.Option.{option_copied_mut}
use Rattle.history_standing.specs.Changes.{at_number}
use Rattle.active_map.specs.Made.{made}
use Rattle.active_map.specs.Tables.{Table, IsIndexed, Covers}
use Rattle.active_map.proofs.MadeKeeps.{keeps_made, made_stays}
use Rattle.active_map.proofs.Covering.{covers_at}
use Rattle.active_map.proofs.IdsKept.{indexed_each}
use Rattle.std.proofs.lemmas.Bool.{eqb-true}
use Rattle.history_standing.specs.declared.activation.Activation.{Activation}
use Rattle.active_map.specs.Noted.{IsNoted}
use Rattle.active_map.proofs.NotedKept.{noted_at, only_one}
use Rattle.active_map.proofs.RowsKept.{keeps_where, number_found, row_set, row_absent, weight_within, weight_few, moving_few, table_set, tabled}
use Rattle.active_map.proofs.activations.Activations.change.Goals as goal

pub overflow_sub-self : goal.overflow_sub-self
overflow_sub-self c =
    (let t = c.self.inside in
    let had = sym c.get_mut.ensures.value ∙ ap option_copied_mut c.in-Some.is in
    subst (λ m. m ≤ t.moving) (sym c.moves.ensures)
    (weight_within t.forgotten t.moving c.args.number t.rows.entries c.self.invariant.table c.in-Some.activation.now had))

pub overflow_add-self : goal.overflow_add-self
overflow_add-self c =
    (let few = moving_few _ _ _ c.self.invariant.table in let one = weight_few c.make.new.activation in let more = c.moves-in-Some.ensures in
    omega (arith, few, one, more))

pub invariant_of-self : goal.invariant_of-self
invariant_of-self c =
    (let t = c.self.inside in
    let f = made c.args.change in
    let keeps = keeps_made c.args.change in
    let a = c.in-Some.activation.now in
    let b = c.make.new.activation in
    let had = sym c.get_mut.ensures.value ∙ ap option_copied_mut c.in-Some.is in
    let written = c.get_mut.follows.holds b in
    let within = weight_within t.forgotten t.moving c.args.number t.rows.entries c.self.invariant.table a had in
    let before = c.moves.ensures in
    let after = c.moves-in-Some.ensures in
    let values = ap values_of written.0
    ∙ row_set c.args.number f t.rows.entries c.self.invariant.table.keyed c.self.invariant.table.ordered a b had c.make.ensures in
    record {
      table =
          table_set t.forgotten t.moving c.args.number t.rows.entries (c.get_mut.follows.lender b).entries f a b
          c.self.invariant.table had written.0 written.1 c.make.ensures keeps
          (t.moving - c.moves.result + c.moves-in-Some.result) (omega (arith, within, before, after));
      indexed =
          subst (IsIndexed t.ids) (sym values)
          (indexed_each t.ids (at_number c.args.number f)
          (keeps_where (λ x. x.number == c.args.number) f keeps)
          (values_of t.rows.entries) c.self.invariant.indexed);
      covered =
          subst (Covers t.leaving.keys) (sym values)
          (covers_at t.leaving.keys c.args.number f (values_of t.rows.entries) keeps (made_stays c.args.change) c.self.invariant.covered);
      noted =
          subst (IsNoted c.note.new.self) (sym values)
          (noted_at c.args.number f (values_of t.rows.entries) a b t.passing c.note.new.self
          (λ x there hit. only_one c.args.number t.rows.entries c.self.invariant.table.keyed c.self.invariant.table.ordered a had x there
          (eqb-true x.number c.args.number hit)) c.make.ensures
          (ap (λ (x : Activation). x.number) c.make.ensures ∙ keeps.number a ∙ number_found c.args.number t.rows.entries c.self.invariant.table.keyed a had)
          c.note.ensures c.self.invariant.noted);
    })

pub returns-in-Some : goal.returns-in-Some
returns-in-Some c =
    (let t = c.self.inside in
    let f = made c.args.change in
    let a = c.in-Some.activation.now in
    let b = c.make.new.activation in
    let had = sym c.get_mut.ensures.value ∙ ap option_copied_mut c.in-Some.is in
    let written = c.get_mut.follows.holds b in
    ap (tabled t.forgotten)
    (ap values_of written.0
    ∙ row_set c.args.number f t.rows.entries c.self.invariant.table.keyed c.self.invariant.table.ordered a b had c.make.ensures)
    ∙ ap (λ (u : Table). tabled u.forgotten (map (at_number c.args.number f) u.kept)) c.self.view_is)

pub returns-in_default : goal.returns-in_default
returns-in_default c =
    (let t = c.self.inside in
    let f = made c.args.change in
    let same = ap (λ m. m.entries) c.get_mut.follows.holds-at-none in
    let none = sym c.get_mut.ensures.value ∙ ap option_copied_mut c.in_default.is in
    ap (λ es. tabled t.forgotten (values_of es)) same
    ∙ ap (tabled t.forgotten) (sym (row_absent c.args.number f t.rows.entries c.self.invariant.table.keyed none))
    ∙ ap (λ (u : Table). tabled u.forgotten (map (at_number c.args.number f) u.kept)) c.self.view_is)
