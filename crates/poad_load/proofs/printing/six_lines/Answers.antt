use Rattle.std.proofs.Common.{◌≡◌, List, ℕ, [], rules}
use Rattle.poad_load.proofs.Summed.{six_added}
use Rattle.poad_load.proofs.printing.six_lines.Goals as goal

pub returns : goal.returns
returns c =
    let none : c.new-out.result.items ≡ [] = search rules in
    six_added c.new-out.result.items _ _ _ _ _ _ c.put_count.new.out.items c.put_count-2.new.out.items c.put_count-3.new.out.items c.put_count-4.new.out.items
    c.put_count-5.new.out.items c.put_sum.new.out.items
    none c.in_ok-put_count.ensures c.in_ok-put_count-2.ensures c.in_ok-put_count-3.ensures c.in_ok-put_count-4.ensures c.in_ok-put_count-5.ensures
    c.in_ok-put_sum.ensures
