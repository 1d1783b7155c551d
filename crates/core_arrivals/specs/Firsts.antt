-- The first number of those that pass that is given something.
use Rattle.std.specs.Prelude.{◌≡◌, ℕ, ◌<◌, nat_lt, if◌then◌else◌, Bool, true, Option, Some, None}

-- none of those below the bound is given anything, or this is the least that is, with what it is given
abbrev pub IsFirst : {A : Type 0} → (ℕ → Bool) → (ℕ → Option A) → ℕ → Option (ℕ × A) → Type 0
IsFirst test give n None = (r : ℕ) → r < n → test r ≡ true → give r ≡ None
IsFirst test give n (Some found) = (found.0 < n) × (test found.0 ≡ true) × (give found.0 ≡ Some found.1)
    × ((r : ℕ) → r < found.0 → test r ≡ true → give r ≡ None)

-- the one of the lesser number
abbrev pub earlier : {A : Type 0} → Option (ℕ × A) → Option (ℕ × A) → Option (ℕ × A)
earlier None b = b
earlier (Some a) None = Some a
earlier (Some a) (Some b) = if nat_lt a.0 b.0 then Some a else Some b
