use Rattle.std.proofs.Common.{◌≡◌, drop, find}
use Rattle.std.specs.BTreeMap.{get}
use Rattle.std.specs.List.{filter_map}
use Rattle.std.specs.Ordering.{nat_cmp}
use Rattle.active_map.specs.Live.{is_live}
use Rattle.active_map.proofs.rows.first_live.Given as goal

abbrev pub invariant-loop-number : goal.invariant-loop-number
invariant-loop-number l =
    find (is_live l.config) (filter_map (get nat_cmp l.rows) (drop l.number-index l.numbers)) ≡ find (is_live l.config)
    (filter_map (get nat_cmp l.rows) l.numbers)
