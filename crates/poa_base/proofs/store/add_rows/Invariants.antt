use Rattle.std.proofs.Common.{◌≡◌, ◌++◌, [], map}
use Rattle.std.specs.List.{filter_map}
use Rattle.poa_base.specs.Rows.{row_seen}
use Rattle.poa_base.specs.Shelves.{placed}
use Rattle.poa_base.specs.Store.{with_place}
use Rattle.poa_base.proofs.store.add_rows.Given as goal

abbrev pub invariant-loop-oid : goal.invariant-loop-oid
invariant-loop-oid l =
    map row_seen l.rows.items ++ filter_map with_place (placed l.path l.oid-iterator [])
    ≡ map row_seen l.initial.rows.items ++ filter_map with_place (placed l.path l.shelf.entries [])
