-- What named files hold, and what a take and a put answer and change.
use Rattle.std.specs.Prelude.{◌≡◌, ◌≢◌, ℕ, ◌<◌, ◌≤◌, List, length, Option, Some, None, ⊤}
use Rattle.std.specs.Option.{IsSomeAnd}
use Rattle.outside.specs.declared.keeping.Taken.{Taken}
use Rattle.outside.specs.declared.keeping.Taken.TheVariants.{Bytes, Absent, TooLong, Failed, WantMemory}
use Rattle.outside.specs.declared.keeping.Put.{Put}
use Rattle.outside.specs.declared.keeping.Put.TheVariants as put

-- the content of each name that is held
abbrev pub Contents : Type 0
Contents = List ℕ → Option (List ℕ)

-- what is taken is no longer than the limit
abbrev pub IsWithin : Taken → ℕ → Type 0
IsWithin (Bytes content) limit = length content ≤ limit
IsWithin _ limit = ⊤

-- a take gives the content of the name, is absent where none is held, and too long where it passes the limit
abbrev pub Shows : Taken → ℕ → Option (List ℕ) → Type 0
Shows (Bytes content) limit held = held ≡ Some content
Shows Absent limit held = held ≡ None
Shows TooLong limit held = IsSomeAnd held (λ content. limit < length content)
Shows Failed limit held = ⊤
Shows WantMemory limit held = ⊤

-- the files hold the content under the name where the put is done, and all else is as before
pub record Stores (answer : Put) (name content : List ℕ) (old new : Contents) : Type 0 where
  pub stored : answer ≡ put.Done → new name ≡ Some content
  pub failed : answer ≡ put.Failed → new name ≡ old name
  pub others : (other : List ℕ) → other ≢ name → new other ≡ old other
