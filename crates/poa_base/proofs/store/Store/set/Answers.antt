use Rattle.std.proofs.Common.{arith, sym, ap, subst, refl, ◌∙◌, IsSome}
use Rattle.std.proofs.lemmas.Grind.{common_steps}
use Rattle.std.specs.Option.{option_copied_mut}
use Rattle.poa_base.proofs.Shelves.{shelf_of_reserved, changed_at, shelved_after_set}
use Rattle.poa_base.proofs.store.Store.set.Goals as goal

pub unwrap-shelf-requires : goal.unwrap-shelf-requires
unwrap-shelf-requires c = grind (arith, common_steps, shelf_of_reserved _ _ c.self.view_is c.self.invariant _ _ c.requires, c.get_mut.ensures.value)

pub set_on-requires : goal.set_on-requires
set_on-requires c =
    grind (arith, common_steps, shelf_of_reserved _ _ c.self.view_is c.self.invariant _ _ c.requires, c.get_mut.ensures.value, c.unwrap-shelf.ensures)

pub invariant_of-self : goal.invariant_of-self
invariant_of-self c =
    let written = c.get_mut.follows.holds c.set_on.new.shelf in
    shelved_after_set _ _ _ _ c.self.invariant written.0 written.4 c.set_on.ensures.ordered

pub returns : goal.returns
returns c =
    let written = c.get_mut.follows.holds c.set_on.new.shelf in
    let had = sym c.get_mut.ensures.value ∙ ap option_copied_mut c.unwrap-shelf.ensures in
    changed_at _ _ _ c.self.view_is c.self.invariant (shelved_after_set _ _ _ _ c.self.invariant written.0 written.4 c.set_on.ensures.ordered)
    c.args.path.now c.args.oid.now _ _ _ had (written.3 (subst IsSome (sym had) refl)).0 c.set_on.ensures.value
