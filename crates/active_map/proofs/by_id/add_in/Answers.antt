use Rattle.std.proofs.Common.{List, ℕ, ◌++◌, ◌∷◌, [], Some, None, IsSome, sym, ap, subst, refl, ◌∙◌}
use Rattle.std.specs.Option.{option_copied_mut}
use Rattle.std.specs.BTreeMap.{insert_entry}
use Rattle.std.specs.Cmp.Lexicographic.{slice_cmp}
use Rattle.std.specs.Ordering.{nat_cmp}
use Rattle.active_map.specs.ById.{IsWithin}
use Rattle.active_map.proofs.Ided.{within_set, within_put, numbers_are, on_err}
use Rattle.active_map.proofs.by_id.add_in.Goals as goal

pub returns-in_err-push-in-Some-clause-err : goal.returns-in_err-push-in-Some-clause-err
returns-in_err-push-in-Some-clause-err c =
    let had = sym c.get_mut.ensures.value ∙ ap option_copied_mut c.in-Some.is in
    let written = c.get_mut.follows.holds c.push.new.self in
    let new = c.get_mut.follows.lender c.push.new.self in
    on_err c.from_residual.result
    (subst (λ xs. IsWithin c.args.oid.now xs c.args.ids.now new)
    (c.in_err-push-in-Some.ensures.items ∙ sym (numbers_are c.args.ids.now c.args.oid.now (Some c.in-Some.numbers.now) had))
    (within_set c.args.ids.now new c.args.oid.now c.push.new.self written.0 (written.3 (subst IsSome (sym had) refl)).1))

pub returns-in_ok-push-in-Some-clause-ok : goal.returns-in_ok-push-in-Some-clause-ok
returns-in_ok-push-in-Some-clause-ok c =
    let had = sym c.get_mut.ensures.value ∙ ap option_copied_mut c.in-Some.is in
    let written = c.get_mut.follows.holds c.push.new.self in
    let new = c.get_mut.follows.lender c.push.new.self in
    subst (λ xs. IsWithin c.args.oid.now xs c.args.ids.now new)
    (c.in_ok-push-in-Some.ensures.items
    ∙ ap (λ (xs : List ℕ). xs ++ c.args.number ∷ []) (sym (numbers_are c.args.ids.now c.args.oid.now (Some c.in-Some.numbers.now) had)))
    (within_set c.args.ids.now new c.args.oid.now c.push.new.self written.0 (written.3 (subst IsSome (sym had) refl)).1)

pub returns-in_ok-insert-in-None-clause-ok : goal.returns-in_ok-insert-in-None-clause-ok
returns-in_ok-insert-in-None-clause-ok c =
    let same = ap (λ m. m.entries) c.get_mut.follows.holds-at-none in
    let none = sym c.get_mut.ensures.value ∙ ap option_copied_mut c.in-None.is in
    let put = c.in_ok-insert-in-None.ensures in
    subst (λ xs. IsWithin c.args.oid.now xs c.args.ids.now c.insert.new.self)
    (c.in_ok-numbers-in-None.ensures ∙ ap (λ (xs : List ℕ). xs ++ c.args.number ∷ []) (sym (numbers_are c.args.ids.now c.args.oid.now None none)))
    (within_put c.args.ids.now c.insert.new.self c.args.oid.now c.in_ok-from_slice-in-None.field-0 c.in_ok-numbers-in-None.numbers
    (sym c.in_ok-from_slice-in-None.ensures.items) (put.entries ∙ ap (λ es. insert_entry (λ x y. slice_cmp nat_cmp x.items y.items) es
    c.in_ok-from_slice-in-None.field-0 c.in_ok-numbers-in-None.numbers) same) put.updates.1)
