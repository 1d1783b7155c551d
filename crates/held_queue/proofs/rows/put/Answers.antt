use Rattle.std.proofs.Common.{sym, subst, ap, ◌∙◌}
use Rattle.held_queue.specs.Rows.{GoesOver}
use Rattle.held_queue.specs.declared.row.Row.{Row}
use Rattle.held_queue.proofs.RowsChanged.{known_put}
use Rattle.held_queue.proofs.rows.put.Goals as goal

pub returns-in-Some : goal.returns-in-Some
returns-in-Some c = λ conf run h arrival least less blocks known.
    let old = c.in-Some.row.now in
    let is = c.in-Some.ensures.value in
    let place = c.in_ok-place.ensures.place in
    known_put conf run h c.args.ready.now.heap c.move_least.new.from.heap c.place_for.new.rows.items c.in_ok-place.place old
    (record { grip = old.grip; calls = c.move_least.new.to }) arrival c.args.hold place.0
    (ap (λ (row : Row). row.grip) is) (place.1 old)
    (subst (λ (row : Row). GoesOver c.args.ready.now.heap c.move_least.new.from.heap row.calls.heap c.move_least.new.to.heap) is c.move_least.ensures.goes)
    least less blocks (c.place_for.ensures.kept conf run h c.args.ready.now.heap known)
