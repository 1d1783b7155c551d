-- What a command that waits is waiting for.
use Rattle.std.specs.Prelude.{ℕ, Bool, true, false, not, ◌&&◌, ◌||◌, ◌==◌, if◌then◌else◌, List, length, Option, Some, None, option_map}
use Rattle.poa_base.specs.declared.Config.{Config}
use Rattle.poa_base.specs.declared.Call.{Call}
use Rattle.poa_base.specs.declared.Command.{Command}
use Rattle.poa_base.specs.declared.Command.TheVariants.{Manager, Destroy}
use Rattle.poa_base.specs.declared.Order.{Order}
use Rattle.poa_base.specs.declared.Order.TheVariants.{Activate, Hold, Discard, Deactivate}
use Rattle.poa_base.specs.declared.Entry.{Entry}
use Rattle.poa_base.specs.declared.Entry.TheVariants.{Admit}
use Rattle.poa_base.specs.declared.Verdict.{Verdict}
use Rattle.history_standing.specs.Templates.{manager_number}
use Rattle.history_standing.specs.Arrivals.{call_of}
use Rattle.history_standing.specs.Changes.{standing}
use Rattle.history_standing.specs.Ends.{is_gone}
use Rattle.history_standing.specs.Logs.{command_in, command_done}
use Rattle.history_standing.specs.Opening.{number_at}
use Rattle.poa_history.specs.Replies.{is_waiting}
use Rattle.poa_history.specs.Settling.{before_admit, is_quiet, are_ended}
use Rattle.history_standing.specs.Stages.{admitted}
use Rattle.history_standing.specs.Standings.{Standing}
use Rattle.core_outboxes.specs.declared.wait.Wait.{Wait}
use Rattle.core_outboxes.specs.declared.wait.Wait.TheVariants.{Nothing, Quiet, Off, Gone}
use Rattle.core_outboxes.specs.declared.wait.Ordered.{Ordered}

-- the entry admits an arrival
abbrev pub admits : Entry → Bool
admits (Admit w r verdict) = true
admits e = false

abbrev pub wait_for : ℕ → Standing → Order → Wait
wait_for m s Activate = Nothing
wait_for m s (Hold wait) = Quiet m
wait_for m s (Discard wait) = Quiet m
wait_for m s (Deactivate etherealize wait) = Off m etherealize (length s.activations)

-- what the command waits for, admitted where this stands
abbrev pub wait_of : Config → Standing → Option Command → Option Wait
wait_of c s (Some (Manager name order)) = elim (manager_number c name) [ Some m ↦ Some (wait_for m s order) | None ↦ None ]
wait_of c s (Some (Destroy p etherealize wait)) = Some (Gone (number_at s p))
wait_of c s command = None

-- what the arrival waits for, if it stands admitted as one that waits
abbrev pub wait_in : Config → ℕ → List Entry → ℕ → Option Wait
wait_in c run h r = if is_waiting (admitted h r) then wait_of c (standing c run (before_admit h r)) (command_in (call_of h r)) else None

-- a command of another arrival ordered this manager
abbrev pub is_overtaking : Option Ordered → ℕ → ℕ → Bool
is_overtaking None r m = false
is_overtaking (Some by) r m = not (by.arrival == r) && (by.manager == m)

-- what is waited for has come, given what an entry ordered
abbrev pub has_come : Config → Standing → Option Ordered → ℕ → Wait → Bool
has_come c s ordered r Nothing = true
has_come c s ordered r (Quiet m) = is_quiet c s m || is_overtaking ordered r m
has_come c s ordered r (Off m etherealize begun) = is_quiet c s m && (not etherealize || are_ended c s m begun)
has_come c s ordered r (Gone k) = is_gone c s k

-- the manager that a command orders
abbrev pub manager_ordered : Config → Option Command → Option ℕ
manager_ordered c (Some (Manager name order)) = manager_number c name
manager_ordered c command = None

-- what an entry orders, after the entries before it
abbrev pub ordered_by : Config → List Entry → Entry → Option Ordered
ordered_by c past (Admit w a verdict) =
    option_map (λ m. record { arrival = a; manager = m }) (manager_ordered c (command_done past (Admit w a verdict)))
ordered_by c past e = None

-- what an admitted arrival waits for from now on
abbrev pub wait_begun : Config → ℕ → List Entry → ℕ → Verdict → Option Wait
wait_begun c run past a verdict =
    if is_waiting (Some verdict) then wait_of c (standing c run past) (command_in (call_of past a)) else None

-- the call that an entry admits
abbrev pub call_told : List Entry → Entry → Option Call
call_told past (Admit w r verdict) = call_of past r
call_told past e = None
