-- Searches over numbers.
use Rattle.std.specs.Prelude.{ℕ, zero, suc, ◌+◌, Bool, if◌then◌else◌, Option, Some, None}
use Rattle.std.specs.Option.{option_or}

-- the least number below a bound that passes
abbrev pub least : (ℕ → Bool) → ℕ → Option ℕ
least test zero = None
least test (suc k) = option_or (least test k) (if test k then Some k else None)

-- the first value that the numbers below a bound give
abbrev pub first_given : {A : Type 0} → (ℕ → Option A) → ℕ → Option A
first_given give zero = None
first_given give (suc k) = option_or (first_given give k) (give k)

-- how many numbers below a bound pass
abbrev pub count_below : (ℕ → Bool) → ℕ → ℕ
count_below test zero = 0
count_below test (suc k) = count_below test k + (if test k then 1 else 0)
