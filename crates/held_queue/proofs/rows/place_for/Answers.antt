use Rattle.std.proofs.Common.{◌≡◌, ◌<◌, sym, subst, ap, ◌∙◌, length, slice_index_or, List}
use Rattle.poa_base.specs.declared.Config.{Config}
use Rattle.held_queue.specs.Held.{RowsAgree}
use Rattle.held_queue.specs.declared.grip.Grip.TheVariants.{Held}
use Rattle.held_queue.specs.Rows.{is_empty_row}
use Rattle.held_queue.specs.declared.row.Row.{Row}
use Rattle.held_queue.proofs.RowsChanged.{regripped_at, known_regripped, known_added}
use Rattle.held_queue.proofs.rows.place_for.Goals as goal

pub returns-in-Some-place_free-clause-place : goal.returns-in-Some-place_free-clause-place
returns-in-Some-place_free-clause-place c =
    subst (λ (rows : List Row). (c.in-Some-place_free.place < length rows)
    × ((d : Row) → (slice_index_or rows c.in-Some-place_free.place d).grip ≡ Held c.args.hold)) (sym c.set_grip.ensures)
    (regripped_at c.args.rows.now.items c.in-Some-place_free.place (Held c.args.hold)
    (subst (λ (rows : List Row). c.in-Some-place_free.place < length rows) c.deref-2.ensures.value c.in-Some-place_free.ensures.0))

pub returns-in-Some-place_free-clause-kept : goal.returns-in-Some-place_free-clause-kept
returns-in-Some-place_free-clause-kept c = λ conf run h ready known.
    subst (λ (rows : List Row). RowsAgree conf run h ready rows) (sym c.set_grip.ensures)
    (known_regripped conf run h ready c.args.rows.now.items c.in-Some-place_free.place (Held c.args.hold)
    (subst (λ (rows : List Row). (d : Row) → is_empty_row (slice_index_or rows c.in-Some-place_free.place d)) c.deref-2.ensures.value
    c.in-Some-place_free.ensures.1) known)

pub returns-clause-kept : goal.returns-clause-kept
returns-clause-kept c = λ conf run h ready known.
    subst (λ (rows : List Row). RowsAgree conf run h ready rows) (sym c.in_ok-push.ensures.items)
    (known_added conf run h ready c.args.rows.now.items (record { grip = Held c.args.hold; calls = c.new.result }) c.new.ensures known)
