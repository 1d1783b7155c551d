use Rattle.std.proofs.Common.{◌≡◌, drop, find}
use Rattle.std.specs.BTreeMap.{get}
use Rattle.std.specs.List.{filter_map}
use Rattle.std.specs.Ordering.{nat_cmp}
use Rattle.history_standing.specs.Standings.{is_active}
use Rattle.active_map.proofs.rows.first_active.Given as goal

abbrev pub invariant-loop-number : goal.invariant-loop-number
invariant-loop-number l =
    find (is_active) (filter_map (get nat_cmp l.rows) (drop l.number-index l.numbers)) ≡ find (is_active) (filter_map (get nat_cmp l.rows) l.numbers)
