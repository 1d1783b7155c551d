use Rattle.std.proofs.Common.{◌≡◌, ◌+◌, ◌-◌, ◌≤◌, ◌==◌, Bool, true, map, sym, ap, subst, ◌∙◌, arith}
use Rattle.std.specs.Map.{values_of}
use Rattle.std.specs.Option.{option_copied_mut}
use Rattle.std.proofs.lemmas.Bool.{eqb-true}
use Rattle.history_standing.specs.declared.activation.Activation.{Activation}
use Rattle.history_standing.specs.Trees.{In}
use Rattle.history_standing.specs.Changes.{at_number}
use Rattle.active_map.specs.Endings.{ended}
use Rattle.active_map.specs.Noted.{IsNoted}
use Rattle.active_map.specs.Tables.{Table, Covers, IsIndexed, is_leaving}
use Rattle.active_map.specs.Wholes.{IsWhole}
use Rattle.active_map.proofs.Covering.{covers_where, keeps_ended}
use Rattle.active_map.proofs.IdsKept.{indexed_each}
use Rattle.active_map.proofs.NotedKept.{noted_each, own_at, own_ended, passing_at, passing_ended}
use Rattle.active_map.proofs.RowsKept.{keeps_where, row_set, row_absent, weight_within, weight_few, moving_few, table_set, tabled}
use Rattle.active_map.proofs.activations.Activations.end_one.Goals as goal

pub invariant_of-self : goal.invariant_of-self
invariant_of-self c =
    (let was = c.self.invariant in
    record {
      table = was.table;
      indexed = was.indexed;
      covered = λ a there leaves. c.enter.ensures.wider a.number (was.covered a there leaves);
      noted = was.noted;
    })

pub overflow_sub-self : goal.overflow_sub-self
overflow_sub-self c =
    (let t = c.self.inside in
    let had = sym c.get_mut.ensures.value ∙ ap option_copied_mut c.in-Some.is in
    subst (λ m. m ≤ t.moving) (sym c.moves.ensures)
    (weight_within t.forgotten t.moving c.args.number t.rows.entries c.self.invariant.table c.in-Some.activation.now had))

pub overflow_add-self : goal.overflow_add-self
overflow_add-self c =
    (let few = moving_few _ _ _ c.self.invariant.table in let one = weight_few c.end.new.activation in let more = c.moves-in-Some.ensures in
    omega (arith, few, one, more))

pub invariant_of-self-in-Some : goal.invariant_of-self-in-Some
invariant_of-self-in-Some c =
    (let t = c.self.inside in
    let f = ended c.args.ending in
    let keeps = keeps_ended c.args.ending in
    let n = c.args.number in
    let a = c.in-Some.activation.now in
    let b = c.end.new.activation in
    let had = sym c.get_mut.ensures.value ∙ ap option_copied_mut c.in-Some.is in
    let written = c.get_mut.follows.holds b in
    let within = weight_within t.forgotten t.moving n t.rows.entries c.self.invariant.table a had in
    let before = c.moves.ensures in
    let after = c.moves-in-Some.ensures in
    let each = keeps_where (λ x. x.number == n) f keeps in
    let values = ap values_of written.0
    ∙ row_set n f t.rows.entries c.self.invariant.table.keyed c.self.invariant.table.ordered a b had c.end.ensures in
    record {
      table =
          table_set t.forgotten t.moving n t.rows.entries (c.get_mut.follows.lender b).entries f a b
          c.self.invariant.table had written.0 written.1 c.end.ensures keeps
          (t.moving - c.moves.result + c.moves-in-Some.result) (omega (arith, within, before, after));
      indexed =
          subst (IsIndexed t.ids) (sym values) (indexed_each t.ids (at_number n f) each (values_of t.rows.entries) c.self.invariant.indexed);
      covered =
          subst (Covers c.enter.new.leaving.keys) (sym values)
          (covers_where is_leaving c.enter.new.leaving.keys (λ x. x.number == n) f (values_of t.rows.entries) keeps
          (λ x there hit _. subst (λ k. In k c.enter.new.leaving.keys) (sym (eqb-true x.number n hit)) c.in_ok-enter.ensures.ok)
          (λ x there _ leaves. c.enter.ensures.wider x.number (c.self.invariant.covered x there leaves)));
      noted =
          subst (IsNoted t.passing) (sym values)
          (noted_each (at_number n f) (values_of t.rows.entries) t.passing each (passing_at n f (passing_ended c.args.ending))
          (own_at n f (own_ended c.args.ending)) c.self.invariant.noted);
    })

pub invariant_of-self-in_default : goal.invariant_of-self-in_default
invariant_of-self-in_default c =
    (let was = c.self.invariant in
    let same = ap (λ m. m.entries) c.get_mut.follows.holds-at-none in
    subst (λ rows. IsWhole c.self.inside.forgotten c.self.inside.moving c.self.inside.ids c.enter.new.leaving.keys c.self.inside.passing rows) (sym same)
    (record {
      table = was.table;
      indexed = was.indexed;
      covered = λ a there leaves. c.enter.ensures.wider a.number (was.covered a there leaves);
      noted = was.noted;
    }))

pub returns-in-Some-clause-ok : goal.returns-in-Some-clause-ok
returns-in-Some-clause-ok c =
    (let t = c.self.inside in
    let f = ended c.args.ending in
    let a = c.in-Some.activation.now in
    let b = c.end.new.activation in
    let had = sym c.get_mut.ensures.value ∙ ap option_copied_mut c.in-Some.is in
    let written = c.get_mut.follows.holds b in
    ap (tabled t.forgotten)
    (ap values_of written.0
    ∙ row_set c.args.number f t.rows.entries c.self.invariant.table.keyed c.self.invariant.table.ordered a b had c.end.ensures)
    ∙ ap (λ (u : Table). tabled u.forgotten (map (at_number c.args.number f) u.kept)) c.self.view_is)

pub returns-in_default-clause-ok : goal.returns-in_default-clause-ok
returns-in_default-clause-ok c =
    (let t = c.self.inside in
    let f = ended c.args.ending in
    let same = ap (λ m. m.entries) c.get_mut.follows.holds-at-none in
    let none = sym c.get_mut.ensures.value ∙ ap option_copied_mut c.in_default.is in
    ap (λ es. tabled t.forgotten (values_of es)) same
    ∙ ap (tabled t.forgotten) (sym (row_absent c.args.number f t.rows.entries c.self.invariant.table.keyed none))
    ∙ ap (λ (u : Table). tabled u.forgotten (map (at_number c.args.number f) u.kept)) c.self.view_is)
