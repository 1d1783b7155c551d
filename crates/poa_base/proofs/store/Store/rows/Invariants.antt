use Rattle.std.proofs.Common.{◌≡◌, ◌++◌, map}
use Rattle.std.specs.List.{filter_map}
use Rattle.poa_base.specs.Rows.{row_seen}
use Rattle.poa_base.specs.Shelves.{flat}
use Rattle.poa_base.specs.Store.{with_place}
use Rattle.poa_base.proofs.store.Store.rows.Given as goal

abbrev pub invariant-loop-path : goal.invariant-loop-path
invariant-loop-path l =
    map row_seen l.rows.items ++ filter_map with_place (flat l.path-iterator) ≡ filter_map with_place (flat l.initial.path-iterator)
