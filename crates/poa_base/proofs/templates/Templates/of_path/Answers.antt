use Rattle.std.proofs.Common.{◌≡◌, true, arith, None, Some}
use Rattle.std.specs.Prelude.{slice_get, nat_eq}
use Rattle.std.specs.BTreeMap as tree
use Rattle.std.specs.Cmp.Lexicographic.{pointwise}
use Rattle.std.specs.Ordering.{nat_cmp}
use Rattle.std.proofs.lemmas.Grind.{common_steps}
use Rattle.poa_base.specs.Templates.{digest}
use Rattle.poa_base.proofs.Finding.{none_of_digest, some_at_digest, first_at_digest}
use Rattle.poa_base.proofs.templates.Templates.of_path.Goals as goal

pub returns-in_err-place : goal.returns-in_err-place
returns-in_err-place c =
    grind (
      arith,
      common_steps,
      c.self.view_is,
      c.get.ensures.value,
      c.digest.ensures,
      none_of_digest c.self.inside.places c.self.inside.entries.items c.self.invariant c.args.path.now,
    )

pub returns-in_err-entry : goal.returns-in_err-entry
returns-in_err-entry c =
    let got : tree.get nat_cmp c.self.inside.places (digest c.args.path.now) ≡ Some c.in_ok-place.field-0.now =
    grind (arith, common_steps, c.get.ensures.value, c.digest.ensures) in
    let there : slice_get c.self.inside.entries.items c.in_ok-place.field-0.now ≡ None =
    grind (arith, common_steps, c.entry_at.ensures, c.as_slice.ensures) in
    absurd (some_at_digest c.self.inside.places c.self.inside.entries.items c.self.invariant c.args.path.now _ got there)

pub returns-then-eq : goal.returns-then-eq
returns-then-eq c =
    let got : tree.get nat_cmp c.self.inside.places (digest c.args.path.now) ≡ Some c.in_ok-place.field-0.now =
    grind (arith, common_steps, c.get.ensures.value, c.digest.ensures) in
    let there : slice_get c.self.inside.entries.items c.in_ok-place.field-0.now ≡ Some c.in_ok-entry.entry.now =
    grind (arith, common_steps, c.entry_at.ensures, c.as_slice.ensures) in
    let same : pointwise (pointwise nat_eq) c.in_ok-entry.entry.now.path c.args.path.now ≡ true =
    grind (arith, common_steps, c.eq.ensures, c.if-eq.true, c.as_slice-2.ensures.value) in
    let first = first_at_digest c.self.inside.places c.self.inside.entries.items c.self.invariant c.args.path.now _ _ got there same in
    grind (arith, common_steps, c.self.view_is, first)
