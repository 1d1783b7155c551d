-- The adapters that stand, in the order of their creation (CORBA 3.3 Part 1, section 15.2).
use Rattle.std.specs.Prelude.{ℕ, Bool, true, false, ◌&&◌, ◌==◌, if◌then◌else◌, List, [], ◌∷◌, ◌++◌, find, Option}
use Rattle.std.specs.List.{list_any}
use Rattle.history_standing.specs.declared.node.Node.{Node}
use Rattle.history_standing.specs.Paths.{same_path, leads_to}

-- an adapter of this number stands
abbrev pub stands : List Node → ℕ → Bool
stands ns k = list_any (λ n. n.number == k) ns

-- an adapter of this number stands at the path, or below it
abbrev pub stands_under : List Node → List (List ℕ) → ℕ → Bool
stands_under ns p k = list_any (λ n. (n.number == k) && leads_to p n.path) ns

-- the adapter that stands at a path
abbrev pub node_at : List Node → List (List ℕ) → Option Node
node_at ns p = find (λ n. same_path n.path p) ns

-- an adapter is created at the path, and gets the next number
abbrev pub created : ℕ → List (List ℕ) → List Node → List Node
created count p ns = ns ++ record { number = count; path = p; dying = false } ∷ []

-- the adapter of the path and its descendants are being destroyed
abbrev pub marked : List (List ℕ) → Node → Node
marked p n = if leads_to p n.path then record n { dying = true } else n
