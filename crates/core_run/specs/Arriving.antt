-- What is owed to a call that arrives.
use Rattle.std.specs.Prelude.{ℕ, if◌then◌else◌, Option, Some, None}
use Rattle.poa_base.specs.declared.Call.{Call}
use Rattle.poa_history.specs.Replies.{asks, number_of}
use Rattle.core_outboxes.specs.declared.owing.Owing.{Owing}
use Rattle.poa_history.specs.Heads.{head_of}

-- the row of a call that asks a reply; it waits for nothing
abbrev pub row_of : ℕ → ℕ → Call → Option Owing
row_of r conn call =
    if asks (Some call) then Some
    (record { arrival = r; conn = conn; number = number_of (Some call); head = head_of (Some call); wait = None }) else None
