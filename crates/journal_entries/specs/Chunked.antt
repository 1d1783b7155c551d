-- A list in chunks: those that are full, the one that is being filled, and empty ones.
use Rattle.std.specs.Prelude.{◌≡◌, ℕ, ◌+◌, ◌*◌, ◌^◌, ◌≤◌, List, [], ◌∷◌, ◌++◌, Vec, vec_len, vec_capacity}
use Rattle.std.specs.List.{AllByRecursion}

-- how many values a chunk takes
abbrev pub size : ℕ
size = 4096

module _ {T A : Type 0} where
  -- the values of the chunks that are full, and of the one that is being filled
  abbrev pub values : List (Vec T A) → List T → List T
  values [] last = last
  values (chunk ∷ chunks) last = chunk.items ++ values chunks last

  -- how many values all chunks take
  abbrev pub capacity_of : Vec (Vec T A) A → Vec (Vec T A) A → ℕ
  capacity_of full spare = vec_len full * size + size + vec_len spare * size

  abbrev pub IsFull : Vec T A → Type 0
  IsFull chunk = vec_len chunk ≡ size

  pub record IsEmpty (chunk : Vec T A) : Type 0 where
    pub empty : vec_len chunk ≡ 0
    pub room : size ≤ vec_capacity chunk

  pub record IsChunked (full : Vec (Vec T A) A) (last : Vec T A) (spare : Vec (Vec T A) A) : Type 0 where
    pub full_ones : AllByRecursion IsFull full.items
    pub within : vec_len last ≤ size
    pub room : size ≤ vec_capacity last
    pub empty_ones : AllByRecursion IsEmpty spare.items
    -- the list of those that are full has its room
    pub spine : vec_len full + vec_len spare ≤ vec_capacity full
    pub few : vec_len full + vec_len spare ≤ 2 ^ 48
