-- What holds of the adapters that stand, whatever was created, destroyed and ended.
use Rattle.std.specs.Prelude.{◌≡◌, ℕ, ◌<◌, Bool, true, false, List, [], ◌∷◌, ◌++◌, ◌⊎◌}
use Rattle.history_standing.specs.declared.node.Node.{Node}
use Rattle.history_standing.specs.Paths.{leads_to}

-- x is an element of the list
abbrev pub In : {A : Type 0} → A → List A → Type 0
In x [] = ⊥
In x (y ∷ ys) = (x ≡ y) ⊎ In x ys

pub record IsTree (ns : List Node) (count : ℕ) : Type 0 where
  -- a number was given by a creation, to one adapter
  pub numbered : (n : Node) → In n ns → n.number < count
  pub number_alone : (n m : Node) → In n ns → In m ns → n.number ≡ m.number → n ≡ m
  -- of one path one adapter stands
  pub path_alone : (n m : Node) → In n ns → In m ns → n.path ≡ m.path → n ≡ m
  -- the root stands
  pub rooted : (n : Node) × In n ns × (n.path ≡ [])
  -- the parent of an adapter that stands stands
  pub closed : (n : Node) (q : List (List ℕ)) (x : List ℕ) → In n ns → n.path ≡ q ++ x ∷ [] → (m : Node) × In m ns × (m.path ≡ q)
  -- what is below an adapter that is being destroyed is being destroyed
  pub below : (n m : Node) → In n ns → In m ns → leads_to n.path m.path ≡ true → n.dying ≡ true → m.dying ≡ true

-- an adapter of this number stands
abbrev pub Stands : List Node → ℕ → Type 0
Stands ns k = (n : Node) × In n ns × (n.number ≡ k)

-- nothing stands at the path
abbrev pub IsFreePath : List Node → List (List ℕ) → Type 0
IsFreePath ns p = (n : Node) → In n ns → n.path ≡ p → ⊥

-- the path is that of a child of the adapter, which doesn't stand
pub record IsMissingChild (ns : List Node) (k : ℕ) (p : List (List ℕ)) : Type 0 where
  pub parent : Node
  pub name : List ℕ
  pub stands : In parent ns
  pub numbered : parent.number ≡ k
  pub child : p ≡ parent.path ++ name ∷ []
  pub free : IsFreePath ns p

-- the parent lives, and nothing stands at the path
pub record MayCreate (ns : List Node) (p : List (List ℕ)) : Type 0 where
  pub parent : Node
  pub name : List ℕ
  pub stands : In parent ns
  pub living : parent.dying ≡ false
  pub child : p ≡ parent.path ++ name ∷ []
  pub free : (n : Node) → In n ns → n.path ≡ p → ⊥

-- the root stays, and what goes takes all below it along
pub record MayDrop (ns : List Node) (stays : Node → Bool) : Type 0 where
  pub root : (n : Node) → In n ns → n.path ≡ [] → stays n ≡ true
  pub along : (n m : Node) → In n ns → In m ns → leads_to n.path m.path ≡ true → stays n ≡ false → stays m ≡ false
