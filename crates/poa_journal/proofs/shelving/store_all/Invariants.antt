use Rattle.std.proofs.Common.{◌≡◌, ℕ, List, ◌++◌, length}
use Rattle.poa_base.specs.declared.State.{State}
use Rattle.poa_base.specs.Store.{states}
use Rattle.poa_journal.specs.Shelving.{StoresAll, rows_at}
use Rattle.poa_journal.proofs.shelving.store_all.Given as goal

abbrev pub invariant-loop-oid : goal.invariant-loop-oid
invariant-loop-oid l = (done : List (List ℕ × State)) × (l.waiting.items ++ done ≡ l.initial.waiting.items)
    × StoresAll (states l.initial.store ++ rows_at l.path done) l.store

abbrev pub decreases-loop-oid : goal.decreases-loop-oid
decreases-loop-oid l = length l.waiting.items
