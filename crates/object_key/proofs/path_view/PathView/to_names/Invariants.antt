use Rattle.std.proofs.Common.{◌≡◌, ◌++◌, length}
use Rattle.object_key.proofs.path_view.PathView.to_names.Given as goal

-- the copies so far, and the names that are left
abbrev pub invariant-loop-name : goal.invariant-loop-name
invariant-loop-name l = l.names.items ++ l.rest ≡ l.fn.self

abbrev pub decreases-loop-name : goal.decreases-loop-name
decreases-loop-name l = length l.rest
