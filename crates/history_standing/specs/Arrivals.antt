-- Calls in the order of their arriving. A history has its newest entry first, so the tail is what stood before.
use Rattle.std.specs.Prelude.{ℕ, suc, ◌+◌, Bool, true, false, ◌==◌, if◌then◌else◌, List, [], ◌∷◌, Option, Some, None}
use Rattle.poa_base.specs.declared.Call.{Call}
use Rattle.poa_base.specs.declared.Call.TheVariants.{Request, Locate, Line}
use Rattle.poa_base.specs.declared.Entry.{Entry}
use Rattle.poa_base.specs.declared.Entry.TheVariants.{Entered, Arrive}

-- how many calls arrived; the next one gets this number
abbrev pub arrivals : List Entry → ℕ
arrivals [] = 0
arrivals (Arrive conn size call ∷ past) = suc (arrivals past)
arrivals (e ∷ past) = arrivals past

-- the call of an arrival
abbrev pub call_of : List Entry → ℕ → Option Call
call_of [] r = None
call_of (Arrive conn size call ∷ past) r = if r == arrivals past then Some call else call_of past r
call_of (e ∷ past) r = call_of past r

-- the connection of an arrival
abbrev pub conn_of : List Entry → ℕ → Option ℕ
conn_of [] r = None
conn_of (Arrive conn size call ∷ past) r = if r == arrivals past then Some conn else conn_of past r
conn_of (e ∷ past) r = conn_of past r

-- how many connections entered; the next one gets this number
abbrev pub connections : List Entry → ℕ
connections [] = 0
connections (Entered conn ∷ past) = suc (connections past)
connections (e ∷ past) = connections past

-- how many bytes arrived
abbrev pub arrived_bytes : List Entry → ℕ
arrived_bytes [] = 0
arrived_bytes (Arrive conn size call ∷ past) = size + arrived_bytes past
arrived_bytes (e ∷ past) = arrived_bytes past

-- a request or a locate, and not an administrator's line
abbrev pub is_message : Option Call → Bool
is_message (Some (Request head target operation body)) = true
is_message (Some (Locate head target)) = true
is_message (Some (Line number command)) = false
is_message None = false

abbrev pub is_locate : Option Call → Bool
is_locate (Some (Locate head target)) = true
is_locate (Some (Request head target operation body)) = false
is_locate (Some (Line number command)) = false
is_locate None = false

-- the target, where it gives a key
abbrev pub target_of : Option Call → Option (List ℕ)
target_of (Some (Request head target operation body)) = target
target_of (Some (Locate head target)) = target
target_of (Some (Line number command)) = None
target_of None = None
