-- Sums over lists, and histories of entries that belong to connections. A position of a history is an index into it.
use Rattle.std.specs.Prelude.{◌≡◌, ℕ, suc, ◌+◌, ◌<◌, ◌==◌, ◌⊎◌, Bool, false, cond, List, [], ◌∷◌, ◌++◌, length, Option, Some, None}
use mathlib.Core.Option.{some}
use lib.ListN.{get_elem?}

-- the sum of f over a list
abbrev pub total : {A : Type 0} → (A → ℕ) → List A → ℕ
total f [] = 0
total f (x ∷ xs) = f x + total f xs

-- how often x stands in a list
abbrev pub times : ℕ → List ℕ → ℕ
times x ys = total (λ y. cond (y == x) 1 0) ys

-- x stands in the list
abbrev pub In : ℕ → List ℕ → Type 0
In x ys = 0 < times x ys

-- the longer list begins with the shorter one
abbrev pub IsPrefix : {A : Type 0} → List A → List A → Type 0
IsPrefix {A} short long = (rest : List A) × (long ≡ short ++ rest)

-- whether the owner is this connection
abbrev pub is_of : ℕ → Option ℕ → Bool
is_of c None = false
is_of c (Some d) = d == c

module _ {E : Type 0} (owner : E → Option ℕ) where
  -- the position of the first entry of the connection, which is its entering entry; the history's length where it has none
  abbrev pub entering : ℕ → List E → ℕ
  entering c [] = 0
  entering c (e ∷ es) = cond (is_of c (owner e)) 0 (suc (entering c es))

  -- the entry at the position x is one of the connection c
  abbrev pub Belongs : List E → ℕ → ℕ → Type 0
  Belongs log x c = (e : E) × (get_elem? log x ≡ some e) × (owner e ≡ Some c)

  -- where the positions have an entry of a connection, they have that connection's entering entry
  abbrev pub IsClosed : List E → List ℕ → Type 0
  IsClosed log mine = (x c : ℕ) → In x mine → Belongs log x c → In (entering c log) mine

  -- where the positions have a connection's entering entry, they have every entry of that connection
  abbrev pub OwnsAll : List E → List ℕ → Type 0
  OwnsAll log mine = (x c : ℕ) → Belongs log x c → In (entering c log) mine → In x mine

  -- who made the entries at these positions may make this one: of no connection, of one that has no entry yet, or of one whose entering
  -- entry it made
  abbrev pub MayMake : List E → List ℕ → E → Type 0
  MayMake log mine e = (c : ℕ) → owner e ≡ Some c → ((x : ℕ) → Belongs log x c → ⊥) ⊎ In (entering c log) mine

  -- who took this history may put the new one: the same, or with one entry more that it may make
  abbrev pub MayPut : List E → List ℕ → List E → Type 0
  MayPut log mine new = (new ≡ log) ⊎ ((e : E) × (new ≡ log ++ e ∷ []) × MayMake log mine e)

-- the positions that one has made once the new history is put: also that of the new entry, if there is one
abbrev pub made_by : {E : Type 0} → List ℕ → List E → List E → List ℕ
made_by mine log new = cond (length new == length log) mine (mine ++ length log ∷ [])
