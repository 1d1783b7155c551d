-- Values that one fixed word stands for.
use Rattle.std.specs.Prelude.{ℕ, List, [], ◌∷◌, Option, Some, None, if◌then◌else◌}
use Rattle.std.specs.Str.{bytes_eq}

-- the first value of a list whose word this is
abbrev pub named_in : {K : Type 0} → (K → List ℕ) → List K → List ℕ → Option K
named_in text [] w = None
named_in text (k ∷ ks) w = if bytes_eq (text k) w then Some k else named_in text ks w
