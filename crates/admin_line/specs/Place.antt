-- Reading words one after another, with the number of the first that is wrong, missing or too much.
use Rattle.std.specs.Prelude.{◌≡◌, ℕ, ⊤, List, [], ◌∷◌, Option, Some, None, Result, Ok, Err}
use Rattle.admin_line.specs.declared.place.Wrong.{Wrong}
use Rattle.admin_line.specs.declared.place.Wrong.TheVariants.{Word, WantMemory}

infixl 10 ◌>>=◌
abbrev pub ◌>>=◌ : {A B : Type 0} → Result A ℕ → (A → Result B ℕ) → Result B ℕ
Ok x >>= f = f x
Err k >>= f = Err k

abbrev pub with_rest : {X : Type 0} → ℕ → List (List ℕ) → Option X → Result (X × List (List ℕ)) ℕ
with_rest k ws None = Err k
with_rest k ws (Some x) = Ok (x, ws)

-- word k by its reader, and the words behind it
abbrev pub at : {X : Type 0} → ℕ → (List ℕ → Option X) → List (List ℕ) → Result (X × List (List ℕ)) ℕ
at k f [] = Err k
at k f (w ∷ ws) = with_rest k ws (f w)

-- nothing stands at word k
abbrev pub end : {X : Type 0} → ℕ → List (List ℕ) → X → Result X ℕ
end k [] x = Ok x
end k (w ∷ ws) x = Err k

-- what a reader's answer says: the value, or the number of the wrong word; `view` is what a clause sees of the value
abbrev pub Finds : {X Y : Type 0} → (X → Y) → Result X Wrong → Result Y ℕ → Type 0
Finds view (Ok x) meant = meant ≡ Ok (view x)
Finds view (Err (Word k)) meant = meant ≡ Err k
Finds view (Err WantMemory) meant = ⊤
