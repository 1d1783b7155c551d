use Rattle.std.proofs.Common.{◌≡◌, ℕ, ◌+◌, ◌++◌, ◌∷◌, ◌==◌, [], filter, not, length, ap, sym, subst, refl, ◌∙◌, arith}
use Rattle.std.proofs.lemmas.Map.Entries.{length-values_of}
use Rattle.std.specs.Map.{values_of}
use Rattle.history_standing.specs.declared.activation.Activation.{Activation}
use Rattle.active_map.specs.ById.{IsAt, numbers_of}
use Rattle.active_map.specs.Noted.{IsNoted}
use Rattle.active_map.specs.Tables.{Table, Covers, IsIndexed, IsTable}
use Rattle.active_map.specs.Wholes.{IsWhole}
use Rattle.active_map.proofs.NotedKept.{noted_more, noted_others}
use Rattle.active_map.proofs.IdsKept.{earlier_others, indexed_back, indexed_more, indexed_same}
use Rattle.active_map.proofs.Covering.{covers_more}
use Rattle.active_map.proofs.RowsKept.{moving_few, weight_few, tabled, table_pushed, values_pushed}
use Rattle.active_map.proofs.activations.Activations.push.Goals as goal

pub overflow_add-self : goal.overflow_add-self
overflow_add-self c =
    (let few = moving_few _ _ _ c.self.invariant.table in let one = weight_few c.args.activation in let more = c.moves-more.ensures in
    omega (arith, few, one, more))

pub invariant_of-self-in_err-add : goal.invariant_of-self-in_err-add
invariant_of-self-in_err-add c =
    (let t = c.self.inside in record {
      table = c.self.invariant.table;
      indexed = indexed_same t.ids c.add.new.index (values_of t.rows.entries) c.self.invariant.indexed c.args.activation.adapter c.as_slice-oid.result.now
          c.in_err-add.ensures.err;
      covered = c.self.invariant.covered;
      noted = c.reserve.ensures (values_of t.rows.entries) c.self.invariant.noted;
    })

pub invariant_of-self-in-Ok : goal.invariant_of-self-in-Ok
invariant_of-self-in-Ok c =
    (let t = c.self.inside in
    let a = c.args.activation in
    let next = c.requires.next ∙ sym (ap (λ (u : Table). u.forgotten + length u.kept) c.self.view_is)
    ∙ ap (λ m. t.forgotten + m) (length-values_of t.rows.entries) in
    record {
      table = subst (λ m. IsTable t.forgotten (t.moving + m) c.insert.new.self.entries) (sym c.moves-more.ensures)
          (table_pushed t.forgotten t.moving a.number a t.rows.entries c.insert.new.self.entries c.self.invariant.table next
          c.in-Ok.ensures.entries refl c.requires.few c.insert.ensures.ordered);
      indexed = subst (IsIndexed c.add.new.index)
          (sym (values_pushed t.forgotten t.moving a.number a t.rows.entries c.insert.new.self.entries c.self.invariant.table next c.in-Ok.ensures.entries))
          (indexed_more t.ids c.add.new.index (values_of t.rows.entries) c.self.invariant.indexed a a.number refl
          (subst (λ oid. IsAt a.adapter oid (numbers_of t.ids a.adapter oid ++ a.number ∷ []) t.ids c.add.new.index) c.as_slice-oid.ensures.value
          c.in_ok-add.ensures.ok));
      covered = subst (Covers t.leaving.keys)
          (sym (values_pushed t.forgotten t.moving a.number a t.rows.entries c.insert.new.self.entries c.self.invariant.table next c.in-Ok.ensures.entries))
          (covers_more t.leaving.keys a (values_of t.rows.entries) c.requires.lasts c.self.invariant.covered);
      noted = subst (IsNoted c.note.new.self)
          (sym (values_pushed t.forgotten t.moving a.number a t.rows.entries c.insert.new.self.entries c.self.invariant.table next c.in-Ok.ensures.entries))
          (noted_more a c.reserve.new.self c.note.new.self (values_of t.rows.entries) c.note.ensures
          (earlier_others a.number t.rows.entries c.self.invariant.table.keyed
          (λ k there. (let low = c.self.invariant.table.earlier k there in omega (arith, low, next))))
          (c.reserve.ensures (values_of t.rows.entries) c.self.invariant.noted));
    })

pub returns-in-Ok-clause-ok : goal.returns-in-Ok-clause-ok
returns-in-Ok-clause-ok c =
    (let t = c.self.inside in
    let next = c.requires.next ∙ sym (ap (λ (u : Table). u.forgotten + length u.kept) c.self.view_is)
    ∙ ap (λ m. t.forgotten + m) (length-values_of t.rows.entries) in
    ap (tabled t.forgotten)
    (values_pushed t.forgotten t.moving c.args.activation.number c.args.activation t.rows.entries c.insert.new.self.entries c.self.invariant.table next
    c.in-Ok.ensures.entries)
    ∙ ap (λ (u : Table). tabled u.forgotten (u.kept ++ c.args.activation ∷ [])) c.self.view_is)

pub invariant_of-self-in-Err : goal.invariant_of-self-in-Err
invariant_of-self-in-Err c =
    (let t = c.self.inside in
    let a = c.args.activation in
    let next = c.requires.next ∙ sym (ap (λ (u : Table). u.forgotten + length u.kept) c.self.view_is)
    ∙ ap (λ m. t.forgotten + m) (length-values_of t.rows.entries) in
    let back = c.in-Err.ensures.value_returned in
    let same : c.insert.new.self.entries ≡ t.rows.entries = c.in-Err.ensures.err in
    subst (IsWhole t.forgotten t.moving c.remove.new.index t.leaving.keys c.note.new.self) (sym same)
    (record {
      table = c.self.invariant.table;
      indexed = indexed_back t.ids c.add.new.index c.remove.new.index (values_of t.rows.entries) a
          (earlier_others a.number t.rows.entries c.self.invariant.table.keyed
          (λ k there. (let low = c.self.invariant.table.earlier k there in omega (arith, low, next)))) c.self.invariant.indexed
          (subst (λ oid. IsAt a.adapter oid (numbers_of t.ids a.adapter oid ++ a.number ∷ []) t.ids c.add.new.index) c.as_slice-oid.ensures.value
          c.in_ok-add.ensures.ok)
          (subst (λ (o : ℕ × Activation). IsAt o.1.adapter o.1.oid
          (filter (λ n. not (n == a.number)) (numbers_of c.add.new.index o.1.adapter o.1.oid)) c.add.new.index c.remove.new.index) back
          (subst (λ oid. IsAt c.in-Err.failed.value.1.adapter oid
          (filter (λ n. not (n == a.number)) (numbers_of c.add.new.index c.in-Err.failed.value.1.adapter oid)) c.add.new.index c.remove.new.index)
          c.as_slice-oid-in-Err.ensures.value c.remove.ensures));
      covered = c.self.invariant.covered;
      noted = noted_others a c.reserve.new.self c.note.new.self (values_of t.rows.entries) c.note.ensures
          (earlier_others a.number t.rows.entries c.self.invariant.table.keyed
          (λ k there. (let low = c.self.invariant.table.earlier k there in omega (arith, low, next))))
          (c.reserve.ensures (values_of t.rows.entries) c.self.invariant.noted);
    }))

pub invariant_of-self : goal.invariant_of-self
invariant_of-self c =
    (let t = c.self.inside in record {
      table = c.self.invariant.table;
      indexed = c.self.invariant.indexed;
      covered = c.self.invariant.covered;
      noted = c.reserve.ensures (values_of t.rows.entries) c.self.invariant.noted;
    })
