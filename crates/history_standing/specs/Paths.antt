-- Paths of adapters, as lists of names from below the root down.
use Rattle.std.specs.Prelude.{ℕ, Bool, true, false, ◌&&◌, List, [], ◌∷◌, nat_eq}
use Rattle.std.specs.Cmp.Lexicographic.{pointwise}

-- the same name, the same id
abbrev pub same_bytes : List ℕ → List ℕ → Bool
same_bytes x y = pointwise nat_eq x y

abbrev pub same_path : List (List ℕ) → List (List ℕ) → Bool
same_path p q = pointwise (pointwise nat_eq) p q

-- the first path is the second, or one above it
abbrev pub leads_to : List (List ℕ) → List (List ℕ) → Bool
leads_to [] q = true
leads_to (x ∷ p) [] = false
leads_to (x ∷ p) (y ∷ q) = same_bytes x y && leads_to p q

abbrev pub is_root : List (List ℕ) → Bool
is_root [] = true
is_root (x ∷ p) = false

-- all names but the last
abbrev pub parent_path : List (List ℕ) → List (List ℕ)
parent_path [] = []
parent_path (x ∷ []) = []
parent_path (x ∷ y ∷ p) = x ∷ parent_path (y ∷ p)
