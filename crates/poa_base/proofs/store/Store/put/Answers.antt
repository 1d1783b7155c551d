use Rattle.std.proofs.Common.{None, IsSome, sym, ap, subst, refl, ◌∙◌}
use Rattle.std.proofs.lemmas.Result.{on_ok_weaker, on_err_weaker}
use Rattle.std.specs.Option.{option_copied_mut}
use Rattle.poa_base.specs.Shelves.{IsInOrder, IsShelved, slots_of}
use Rattle.poa_base.proofs.Shelves.{all_at, changed_at, unchanged_at, first_state, at_key, shelved_after_set, shelved_after_insert}
use Rattle.std.specs.BTreeMap.{is_at}
use Rattle.std.specs.Map.{lookup}
use Rattle.poa_base.specs.Store.{path_cmp}
use Rattle.poa_base.proofs.store.Store.put.Goals as goal

pub put_on-requires : goal.put_on-requires
put_on-requires c = all_at IsInOrder _ _ _ c.self.invariant.ids (sym c.get_mut.ensures.value ∙ ap option_copied_mut c.in-Some.is)

pub invariant_of-self : goal.invariant_of-self
invariant_of-self c =
    let written = c.get_mut.follows.holds c.put_on.new.shelf in
    shelved_after_set _ _ _ _ c.self.invariant written.0 written.4 c.put_on.ensures.ordered

pub returns-in-Some-clause-ok : goal.returns-in-Some-clause-ok
returns-in-Some-clause-ok c =
    let written = c.get_mut.follows.holds c.put_on.new.shelf in
    let had = sym c.get_mut.ensures.value ∙ ap option_copied_mut c.in-Some.is in
    on_ok_weaker _ (changed_at _ _ _ c.self.view_is c.self.invariant (shelved_after_set _ _ _ _ c.self.invariant written.0 written.4 c.put_on.ensures.ordered)
    c.args.path.now c.args.oid.now _ _ _ had (written.3 (subst IsSome (sym had) refl)).0) c.put_on.ensures.ok

pub returns-in-Some-clause-err : goal.returns-in-Some-clause-err
returns-in-Some-clause-err c =
    let written = c.get_mut.follows.holds c.put_on.new.shelf in
    let had = sym c.get_mut.ensures.value ∙ ap option_copied_mut c.in-Some.is in
    on_err_weaker _
    (unchanged_at _ _ _ c.self.view_is c.self.invariant (shelved_after_set _ _ _ _ c.self.invariant written.0 written.4 c.put_on.ensures.ordered)
    c.args.path.now _ _ had (written.3 (subst IsSome (sym had) refl)).0) c.put_on.ensures.err

pub invariant_of-self-in-None : goal.invariant_of-self-in-None
invariant_of-self-in-None c =
    let same = ap (λ m. m.entries) c.get_mut.follows.holds-at-none in
    shelved_after_insert _ _ _ _ (subst IsShelved (sym same) c.self.invariant) c.in_ok-insert-in-None.ensures.entries c.insert.ensures.ordered
    c.put_on-in-None.ensures.ordered

pub returns-in_ok-insert-in-None-clause-ok : goal.returns-in_ok-insert-in-None-clause-ok
returns-in_ok-insert-in-None-clause-ok c =
    let same = ap (λ m. m.entries) c.get_mut.follows.holds-at-none in
    let before = subst IsShelved (sym same) c.self.invariant in
    let put = c.in_ok-insert-in-None.ensures in
    changed_at _ _ _ (ap slots_of same ∙ c.self.view_is) before
    (shelved_after_insert _ _ _ _ before put.entries c.insert.ensures.ordered c.put_on-in-None.ensures.ordered)
    c.args.path.now c.args.oid.now None c.put_on-in-None.new.shelf _
    (ap (lookup (is_at (path_cmp c.args.path.now))) same ∙ sym c.get_mut.ensures.value ∙ ap option_copied_mut c.in-None.is)
    (at_key _ _ _ _ _ c.in_ok-try_clone-in-None.ensures.equal put.updates.0)
    (first_state c.new-shelf.result c.put_on-in-None.new.shelf _ _ c.new-shelf.ensures.empty c.in_ok-put_on-in-None.ensures.ok)
