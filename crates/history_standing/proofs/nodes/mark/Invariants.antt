use Rattle.std.proofs.Common.{◌≡◌, ◌++◌, map, take, drop}
use Rattle.history_standing.specs.Nodes as tree
use Rattle.history_standing.proofs.nodes.mark.Given as goal

abbrev pub invariant-loop-node : goal.invariant-loop-node
invariant-loop-node l = l.node-items ≡ map (tree.marked l.path) (take l.node-index l.fn.nodes.items) ++ drop l.node-index l.fn.nodes.items
