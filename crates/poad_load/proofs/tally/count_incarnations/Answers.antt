use Rattle.std.proofs.Common.{◌≡◌, suc, ◌+◌, ◌<◌, if◌then◌else◌, length, take, reverse, option_map, arith, sym, ap, ◌∙◌}
use Rattle.journal_entries.specs.Rows.{seen}
use Rattle.poad_load.specs.Counts.{count, is_such, has_brought}
use Rattle.poad_load.proofs.Counted.{counted_more}
use Rattle.poad_load.proofs.tally.count_incarnations.Goals as goal
use Rattle.poad_load.proofs.tally.count_incarnations.Goals.{then-has_brought, else-has_brought}

pub loop-place-preserved : goal.loop-place-preserved
loop-place-preserved c =
    (let less : c.loop-place.place < length c.args.entries.now.items = let below = c.loop-place-test.true in let long = c.len-place-end.ensures in
    omega (arith, below, long) in
    let so_far = count has_brought (reverse (take c.loop-place.place c.args.entries.now.items)) in
    let more = counted_more has_brought c.args.entries.now.items c.loop-place.place (option_map seen c.get.result) less c.get.ensures in
    elim c.if-has_brought.branch [
      | then-has_brought w ↦
          (let one = more ∙ ap (λ b. if b then suc so_far else so_far) (sym c.has_brought.ensures ∙ w.if-has_brought.true) in
          (omega (arith, w.count-is, c.loop-place.invariant.0, one), omega (arith, w.count-is, c.loop-place.invariant.1)))
      | else-has_brought w ↦
          (let none = more ∙ ap (λ b. if b then suc so_far else so_far) (sym c.has_brought.ensures ∙ w.if-has_brought.false) in
          (omega (arith, w.count-is, c.loop-place.invariant.0, none), omega (arith, w.count-is, c.loop-place.invariant.1)))
    ])
