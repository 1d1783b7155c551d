-- Which calls wait to be admitted.
use Rattle.std.specs.Prelude.{ℕ, Bool, true, false, ◌&&◌, if◌then◌else◌, List, Option, Some, None}
use Rattle.poa_base.specs.declared.Attempt.TheVariants.{Yes}
use Rattle.poa_base.specs.declared.Entry.{Entry}
use Rattle.poa_base.specs.declared.Entry.TheVariants.{Arrive, Tried}
use Rattle.history_standing.specs.Arrivals.{arrivals, call_of, is_message}
use Rattle.history_standing.specs.Stages.{stage, arrival_in, is_unadmitted}

-- a request or a locate that wasn't admitted
abbrev pub is_waiting : List Entry → ℕ → Bool
is_waiting h r = is_unadmitted h r && is_message (call_of h r)

-- a call comes into the queue with the entry: it arrives, or goes back once its child was made
abbrev pub may_queue : Entry → Bool
may_queue (Arrive conn size call) = true
may_queue (Tried w (Yes number)) = true
may_queue e = false

-- the request or locate that comes into the queue with the entry, where one does
abbrev pub received : List Entry → Entry → Option ℕ
received past (Arrive conn size call) = if is_message (Some call) then Some (arrivals past) else None
received past (Tried w (Yes number)) = arrival_in (stage past w)
received past e = None
