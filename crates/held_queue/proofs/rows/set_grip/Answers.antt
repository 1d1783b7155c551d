use Rattle.std.proofs.Common.{ap, sym, ◌∙◌, arith, length, slice_set, inl, inr}
use Rattle.std.proofs.lemmas.Bool.{cases_lt}
use Rattle.held_queue.proofs.Least.{is_there, not_there}
use Rattle.held_queue.proofs.RowsChanged.{regripped_set, regripped_past}
use Rattle.held_queue.specs.declared.row.Row.{Row}
use Rattle.held_queue.proofs.rows.set_grip.Goals as goal

pub returns-in-Some : goal.returns-in-Some
returns-in-Some c =
    ap (λ (row : Row). slice_set c.args.rows.now.items c.args.place (record row { grip = c.args.grip })) c.in-Some.ensures.value
    ∙ regripped_set c.args.rows.now.items c.args.place c.args.grip c.in-Some.row.now
    (let low = is_there c.get_mut.result c.in-Some.row c.get_mut.ensures.variant c.in-Some.is in let ok = c.args.rows.now.ok.0 in omega (arith, low, ok))

pub returns-in_default : goal.returns-in_default
returns-in_default c =
    regripped_past c.args.rows.now.items c.args.place c.args.grip (elim (cases_lt c.args.place (length c.args.rows.now.items)) [
      | inl low ↦ absurd (not_there c.get_mut.result c.get_mut.ensures.variant c.in_default.is (let ok = c.args.rows.now.ok.0 in omega (arith, low, ok)))
      | inr high ↦ high
    ])
