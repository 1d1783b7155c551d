use Rattle.std.proofs.Common.{◌≡◌, ◌==◌, not, filter, [], Some, IsSome, sym, ap, subst, refl, ◌∙◌}
use Rattle.std.specs.Option.{option_copied_mut}
use Rattle.active_map.specs.ById.{IsWithin, numbers_in}
use Rattle.active_map.proofs.Ided.{within_set, within_out, within_through, none_left, numbers_are}
use Rattle.active_map.proofs.by_id.remove_in.Goals as goal

pub returns-then-is_empty : goal.returns-then-is_empty
returns-then-is_empty c =
    let had = sym c.get_mut.ensures.value ∙ ap option_copied_mut c.in-Some.is in
    let written = c.get_mut.follows.holds c.drop_number.new.numbers in
    let mid = c.get_mut.follows.lender c.drop_number.new.numbers in
    let left : c.drop_number.new.numbers.items ≡ filter (λ n. not (n == c.args.number)) (numbers_in c.args.ids.now c.args.oid.now) =
    c.drop_number.ensures
    ∙ ap (filter (λ n. not (n == c.args.number))) (sym (numbers_are c.args.ids.now c.args.oid.now (Some c.in-Some.numbers.now) had)) in
    subst (λ xs. IsWithin c.args.oid.now xs c.args.ids.now c.remove-none.new.self)
    (sym (none_left c.drop_number.new.numbers (sym c.is_empty.ensures ∙ c.if-is_empty.true)) ∙ left)
    (within_through c.args.ids.now mid c.remove-none.new.self c.args.oid.now c.drop_number.new.numbers.items []
    (within_set c.args.ids.now mid c.args.oid.now c.drop_number.new.numbers written.0 (written.3 (subst IsSome (sym had) refl)).1)
    (within_out mid c.remove-none.new.self c.args.oid.now c.remove-none.ensures.entries c.remove-none.ensures.updates.1))

pub returns-else-is_empty : goal.returns-else-is_empty
returns-else-is_empty c =
    let had = sym c.get_mut.ensures.value ∙ ap option_copied_mut c.in-Some.is in
    let written = c.get_mut.follows.holds c.drop_number.new.numbers in
    let new = c.get_mut.follows.lender c.drop_number.new.numbers in
    subst (λ xs. IsWithin c.args.oid.now xs c.args.ids.now new)
    (c.drop_number.ensures
    ∙ ap (filter (λ n. not (n == c.args.number))) (sym (numbers_are c.args.ids.now c.args.oid.now (Some c.in-Some.numbers.now) had)))
    (within_set c.args.ids.now new c.args.oid.now c.drop_number.new.numbers written.0 (written.3 (subst IsSome (sym had) refl)).1)
