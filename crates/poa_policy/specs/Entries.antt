-- The entries of a table, each by a rule on it and on those before it.
use Rattle.std.specs.Prelude.{◌≡◌, ◌≢◌, ℕ, List, [], ◌∷◌, ◌++◌, Some, slice_get, ⊤}
use Rattle.std.specs.List.{AllByRecursion}

-- each entry keeps the rule with those before it, of which the list `done` come first
abbrev pub EachAfter : {A : Type 0} → (List A → A → Type 0) → List A → List A → Type 0
EachAfter Rule done [] = ⊤
EachAfter Rule done (x ∷ xs) = Rule done x × EachAfter Rule (done ++ x ∷ []) xs

-- none of the earlier entries has its key
abbrev pub IsNew : {A K : Type 0} → (A → K) → List A → A → Type 0
IsNew key done x = AllByRecursion (λ d. key d ≢ key x) done

-- the entry stands in the table
abbrev pub IsEntry : {A : Type 0} → List A → A → Type 0
IsEntry xs x = (k : ℕ) × (slice_get xs k ≡ Some x)
