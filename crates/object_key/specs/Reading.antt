-- What a reader of one part of a key finds at the front of a text.
use Rattle.std.specs.Prelude.{◌≡◌, ℕ, zero, suc, List, [], ◌∷◌, ◌++◌, length, take, drop, All}
use Rattle.std.specs.List.{flat_map}
use Rattle.poa_base.specs.Limits.{IsName}
use Rattle.object_key.specs.Spelling.{name_bytes}

-- the text begins with the bytes of a value within its limits, and the rest stands behind them
pub record KeyReads {A : Type 0} (bytes_of : A → List ℕ) (Fits : A → Type 0) (value : A) (text rest : List ℕ) : Type 0 where
  pub begins : text ≡ bytes_of value ++ rest
  pub fits : Fits value

-- the text begins with the bytes of no value within its limits
abbrev pub ReadsNone : {A : Type 0} → (A → List ℕ) → (A → Type 0) → List ℕ → Type 0
ReadsNone {A} bytes_of Fits text = (value : A) (rest : List ℕ) → KeyReads bytes_of Fits value text rest → ⊥

-- so many names, each within its limits
abbrev pub AreNames : ℕ → List (List ℕ) → Type 0
AreNames count names = (length names ≡ count) × All IsName names

-- names one behind the other
abbrev pub names_bytes : List (List ℕ) → List ℕ
names_bytes names = flat_map name_bytes names

-- so many names from the front of a text, each behind an octet of its length
abbrev pub names_of : ℕ → List ℕ → List (List ℕ)
names_of zero text = []
names_of (suc count) [] = []
names_of (suc count) (len ∷ text) = take len text ∷ names_of count (drop len text)
