-- What differs between version 1.2, the newest, and the versions before it.
use Rattle.std.specs.Prelude.{ℕ, Bool, true, false, ◌==◌}
use Rattle.giop_answer.specs.declared.kind.TheConstants.{MINOR}

abbrev pub is_newest : ℕ → Bool
is_newest minor = minor == MINOR

-- the one in the newest version, the other in those before it
abbrev pub ByVersion : Bool → Type 0 → Type 0 → Type 0
ByVersion true newest earlier = newest
ByVersion false newest earlier = earlier
