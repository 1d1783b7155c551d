-- The walk from the root along a key's path (CORBA 3.3 Part 1, section 15.2.3).
use Rattle.std.specs.Prelude.{ℕ, suc, if◌then◌else◌, List, [], ◌∷◌, ◌++◌, take, length, Some, None}
use Rattle.history_standing.specs.declared.node.Node.{Node}
use Rattle.history_standing.specs.declared.found.Found.{Found}
use Rattle.history_standing.specs.declared.found.Found.TheVariants.{Live, Dying, Missing}
use Rattle.history_standing.specs.Nodes.{node_at}

-- from an adapter along the rest of the path
abbrev pub walk_from : List Node → Node → List (List ℕ) → Found
walk_from ns here [] = if here.dying then Dying here.number else Live here.number
walk_from ns here (x ∷ p) =
    if here.dying then Dying here.number else elim (node_at ns (here.path ++ x ∷ []))
    [ Some n ↦ walk_from ns n p | None ↦ Missing here.number (length here.path) ]

abbrev pub walk : List Node → List (List ℕ) → Found
walk ns p = elim (node_at ns []) [ Some root ↦ walk_from ns root p | None ↦ Missing 0 0 ]

-- the adapter that the walk found, or the parent of the missing child
abbrev pub adapter_met : Found → ℕ
adapter_met (Live k) = k
adapter_met (Dying k) = k
adapter_met (Missing k depth) = k

-- the path of the missing child
abbrev pub child_met : Found → List (List ℕ) → List (List ℕ)
child_met (Missing k depth) p = take (suc depth) p
child_met found p = p

-- the path of the adapter found, or of the parent of the missing child
abbrev pub place_met : Found → List (List ℕ) → List (List ℕ)
place_met (Missing k depth) p = take depth p
place_met found p = p
