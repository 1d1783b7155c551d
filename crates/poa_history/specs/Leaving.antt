-- How a run comes to its end: a `shutdown` is admitted, and the connections leave.
use Rattle.std.specs.Prelude.{ℕ, Bool, false, not, ◌&&◌, ◌||◌, ◌==◌, List, [], ◌∷◌, Option, Some, None}
use Rattle.poa_base.specs.declared.Call.{Call}
use Rattle.poa_base.specs.declared.Entry.{Entry}
use Rattle.poa_base.specs.declared.Entry.TheVariants.{Admit}
use Rattle.history_standing.specs.Arrivals.{call_of}
use Rattle.poa_history.specs.Legal.{has_left, is_shutdown}
use Rattle.history_standing.specs.Searches.{count_below}

-- there is a call, and it is a `shutdown`
abbrev pub is_shut_by : Option Call → Bool
is_shut_by (Some call) = is_shutdown call
is_shut_by None = false

-- a `shutdown` was admitted, whatever it was answered: one is refused where the root is being destroyed already
abbrev pub is_shut : List Entry → Bool
is_shut [] = false
is_shut (Admit w r verdict ∷ past) = is_shut_by (call_of past r) || is_shut past
is_shut (e ∷ past) = is_shut past

-- a connection is there still, and isn't the first
abbrev pub is_staying : List Entry → ℕ → Bool
is_staying h conn = not (conn == 0) && not (has_left h conn)

-- so many connections are there still, but for the first
abbrev pub staying : List Entry → ℕ → ℕ
staying h conns = count_below (is_staying h) conns

abbrev pub are_gone : List Entry → ℕ → Bool
are_gone h conns = staying h conns == 0
