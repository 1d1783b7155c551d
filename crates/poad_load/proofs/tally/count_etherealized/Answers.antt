use Rattle.std.proofs.Common.{◌≡◌, suc, ◌+◌, ◌<◌, if◌then◌else◌, length, take, reverse, option_map, arith, sym, ap, ◌∙◌}
use Rattle.journal_entries.specs.Rows.{seen}
use Rattle.poad_load.specs.Counts.{count, is_such, is_etherealized}
use Rattle.poad_load.proofs.Counted.{counted_more}
use Rattle.poad_load.proofs.tally.count_etherealized.Goals as goal
use Rattle.poad_load.proofs.tally.count_etherealized.Goals.{then-is_etherealized, else-is_etherealized}

pub loop-place-preserved : goal.loop-place-preserved
loop-place-preserved c =
    (let less : c.loop-place.place < length c.args.entries.now.items = let below = c.loop-place-test.true in let long = c.len-place-end.ensures in
    omega (arith, below, long) in
    let so_far = count is_etherealized (reverse (take c.loop-place.place c.args.entries.now.items)) in
    let more = counted_more is_etherealized c.args.entries.now.items c.loop-place.place (option_map seen c.get.result) less c.get.ensures in
    elim c.if-is_etherealized.branch [
      | then-is_etherealized w ↦
          (let one = more ∙ ap (λ b. if b then suc so_far else so_far) (sym c.is_etherealized.ensures ∙ w.if-is_etherealized.true) in
          (omega (arith, w.count-is, c.loop-place.invariant.0, one), omega (arith, w.count-is, c.loop-place.invariant.1)))
      | else-is_etherealized w ↦
          (let none = more ∙ ap (λ b. if b then suc so_far else so_far) (sym c.is_etherealized.ensures ∙ w.if-is_etherealized.false) in
          (omega (arith, w.count-is, c.loop-place.invariant.0, none), omega (arith, w.count-is, c.loop-place.invariant.1)))
    ])
