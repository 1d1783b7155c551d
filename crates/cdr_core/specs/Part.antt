-- Where a part lies that is lent.
use Rattle.std.specs.Prelude.{◌≡◌, ℕ, ◌+◌, ◌-◌, ◌≤◌, List, length, take, drop}
use Rattle.cdr_core.specs.Spelling.{gap}
use Rattle.cdr_core.specs.Cursor.{Cursor}

-- the part is the slice of these bytes that begins at this place
pub record IsSlice (place : ℕ) (part bytes : List ℕ) : Type 0 where
  pub ends : place + length part ≤ length bytes
  pub slice : part ≡ take (length part) (drop place bytes)

-- the part is the slice of the unread bytes that begins at this place
pub record LiesAt (place : ℕ) (part : List ℕ) (c : Cursor) : Type 0 where
  pub begins : c.place ≤ place
  pub slice : IsSlice (place - c.place) part c.rest

-- what a length counts lies right behind it, and the length at a multiple of 4
abbrev pub counted_at : ℕ → ℕ
counted_at place = place + gap 4 place + 4

-- the cursor stands in these bytes, and what it hasn't read is the rest of them
pub record StandsIn (bytes : List ℕ) (c : Cursor) : Type 0 where
  pub place : c.place ≤ length bytes
  pub rest : c.rest ≡ drop c.place bytes
