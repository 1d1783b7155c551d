use Rattle.std.proofs.Common.{◌≡◌, ◌<◌, ◌+◌, ℕ, List, sym, subst, ap, ◌∙◌, arith, length, slice_index_or, slice_set}
use Rattle.held_queue.specs.Held.{RowsAgree}
use Rattle.held_queue.specs.Rows.{GoesOver, settled_grip, IsSettledRow}
use Rattle.held_queue.specs.declared.numbers.Numbers.{Numbers}
use Rattle.held_queue.specs.declared.row.Row.{Row}
use Rattle.held_queue.proofs.Least.{is_there, not_there}
use Rattle.held_queue.proofs.RowsChanged.{known_settled, settled_more, settled_rows, set_length}
use Rattle.held_queue.proofs.rows.settle.Goals as goal
use Rattle.held_queue.proofs.rows.settle.Goals.{in-Some+in_ok-settle_one, in_default}

pub returns-in_err-settle_one-clause-kept : goal.returns-in_err-settle_one-clause-kept
returns-in_err-settle_one-clause-kept c = λ conf run h same known.
    let old = c.in-Some.row.now in
    let is = c.in-Some.ensures.value in
    known_settled conf run h c.args.flights.now same c.loop-i.ready.heap c.settle_one.new.ready.heap c.loop-i.rows.items c.loop-i.i old c.settle_one.new.row
    (let low = is_there c.get_mut.result c.in-Some.row c.get_mut.ensures.variant c.in-Some.is in let ok = c.loop-i.rows.ok.0 in omega (arith, low, ok))
    (c.settle_one.ensures.grip ∙ ap (λ (row : Row). settled_grip c.args.flights.now row.grip) is)
    (subst (λ (row : Row). GoesOver row.calls.heap c.settle_one.new.row.calls.heap c.loop-i.ready.heap c.settle_one.new.ready.heap) is
    c.settle_one.ensures.goes)
    (c.loop-i.invariant.kept conf run h same known)

pub loop-i-preserved : goal.loop-i-preserved
loop-i-preserved c =
    elim c.match-get_mut.branch [
      | in-Some+in_ok-settle_one w ↦
          (let old = w.in-Some.row.now in
          let is = w.in-Some.ensures.value in
          let low : c.loop-i.i < length c.loop-i.rows.items =
          (let there = is_there c.get_mut.result w.in-Some.row c.get_mut.ensures.variant w.in-Some.is in let ok = c.loop-i.rows.ok.0 in
          omega (arith, there, ok)) in
          let goes =
          subst (λ (row : Row). GoesOver row.calls.heap w.settle_one.new.row.calls.heap c.loop-i.ready.heap w.settle_one.new.ready.heap) is
          w.settle_one.ensures.goes in
          let rows' : c.match-get_mut.rows.items ≡ slice_set c.loop-i.rows.items c.loop-i.i w.settle_one.new.row = ap (λ v. v.items) w.rows-is in
          record {
            kept = λ conf run h same known. subst (λ (rows : List Row). RowsAgree conf run h c.match-get_mut.ready.heap rows) (sym rows')
                (subst (λ (n : Numbers). RowsAgree conf run h n.heap (slice_set c.loop-i.rows.items c.loop-i.i w.settle_one.new.row)) (sym w.ready-is)
                (known_settled conf run h c.args.flights.now same c.loop-i.ready.heap w.settle_one.new.ready.heap c.loop-i.rows.items c.loop-i.i old
                w.settle_one.new.row low
                (w.settle_one.ensures.grip ∙ ap (λ (row : Row). settled_grip c.args.flights.now row.grip) is) goes
                (c.loop-i.invariant.kept conf run h same known)));
            many = ap length rows' ∙ (set_length c.loop-i.rows.items c.loop-i.i w.settle_one.new.row ∙ c.loop-i.invariant.many);
            settled = λ j d less. subst (λ (rows : List Row). IsSettledRow c.args.worker c.match-get_mut.ready.heap (slice_index_or rows j d)) (sym rows')
                (subst (λ (n : Numbers). IsSettledRow c.args.worker n.heap (slice_index_or (slice_set c.loop-i.rows.items c.loop-i.i w.settle_one.new.row) j d))
                (sym w.ready-is)
                (settled_more c.args.worker c.loop-i.ready.heap w.settle_one.new.ready.heap c.loop-i.rows.items c.loop-i.i w.settle_one.new.row low goes.more
                w.in_ok-settle_one.ensures.settled c.loop-i.invariant.settled j d
                (omega (arith, less))));
          })
      | in_default w ↦
          absurd (not_there c.get_mut.result c.get_mut.ensures.variant w.in_default.is
          (let many = c.loop-i.invariant.many in let low = c.loop-i-test.true in let end = c.len-i-end.ensures in let ok = c.loop-i.rows.ok.0 in
          let ok' = c.args.rows.now.ok.0 in omega (arith, many, low, end, ok, ok')))
    ]

pub returns-clause-settled : goal.returns-clause-settled
returns-clause-settled c =
    settled_rows c.args.worker c.loop-i.ready.heap c.loop-i.rows.items c.loop-i.i
    (let many = c.loop-i.invariant.many in let past_ = c.loop-i-test.false in let ok = c.args.rows.now.ok.0 in let end = c.len-i-end.ensures in
    omega (arith, many, past_, ok, end)) c.loop-i.invariant.settled
