-- The limits of a run, and when it was filled.
use Rattle.std.specs.Prelude.{ℕ, ◌^◌, ◌+◌, Bool, not, ◌&&◌, ◌||◌, nat_lt, nat_le, List, [], ◌∷◌, Option, Some, None}
use Rattle.poa_base.specs.declared.Call.{Call}
use Rattle.poa_base.specs.declared.Entry.{Entry}
use Rattle.poa_base.specs.declared.Entry.TheVariants.{Filled}
use Rattle.history_standing.specs.Arrivals.{arrivals, arrived_bytes}
use Rattle.poa_history.specs.Legal.{is_filled, is_shutdown, had_shutdown}

-- the run has room for a call of this size
abbrev pub has_room : ℕ → List Entry → ℕ → Bool
has_room limit past size = not (is_filled past) && (nat_lt (arrivals past) limit && nat_le (arrived_bytes past + size) (2 ^ 30))

-- a call of this size is taken: the run has room for it, or it is the first `shutdown`
abbrev pub is_taken : ℕ → List Entry → ℕ → Call → Bool
is_taken limit past size call = (is_shutdown call && not (had_shutdown past)) || has_room limit past size

-- how many calls, and bytes of calls, stood when the run was filled
abbrev pub filled_at : List Entry → Option (ℕ × ℕ)
filled_at [] = None
filled_at (Filled conn size ∷ past) = Some (arrivals past, arrived_bytes past)
filled_at (e ∷ past) = filled_at past
