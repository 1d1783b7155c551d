-- When a command that waits is answered.
use Rattle.std.specs.Prelude.{ℕ, Bool, true, false, not, ◌&&◌, ◌||◌, ◌==◌, nat_lt, if◌then◌else◌, List, [], ◌∷◌, length, Option, Some, None, is_some}
use Rattle.std.specs.List.{list_any, list_all}
use Rattle.poa_base.specs.declared.Config.{Config}
use Rattle.poa_base.specs.declared.Command.{Command}
use Rattle.poa_base.specs.declared.Command.TheVariants.{Manager, Destroy}
use Rattle.poa_base.specs.declared.Order.{Order}
use Rattle.poa_base.specs.declared.Order.TheVariants.{Activate, Hold, Discard, Deactivate}
use Rattle.poa_base.specs.declared.Entry.{Entry}
use Rattle.poa_base.specs.declared.Entry.TheVariants.{Admit}
use Rattle.history_standing.specs.Templates.{has_activator, manager_at, manager_number}
use Rattle.history_standing.specs.Arrivals.{call_of}
use Rattle.history_standing.specs.Standings.{Standing}
use Rattle.history_standing.specs.Ends.{is_over, is_gone}
use Rattle.history_standing.specs.Logs.{command_in, command_done, order_for}
use Rattle.history_standing.specs.Opening.{number_at}
use Rattle.history_standing.specs.Changes.{standing}

-- what stood when the arrival was admitted
abbrev pub before_admit : List Entry → ℕ → List Entry
before_admit [] r = []
before_admit (Admit w a verdict ∷ past) r = if a == r then past else before_admit past r
before_admit (e ∷ past) r = before_admit past r

-- the adapter is one of the manager's
abbrev pub is_managed : Config → Standing → ℕ → ℕ → Bool
is_managed c s m k = list_any (λ n. (n.number == k) && (manager_at c n.path == m)) s.nodes

-- nothing is in flight in the adapters of the manager
abbrev pub is_quiet : Config → Standing → ℕ → Bool
is_quiet c s m = not (list_any (λ f. is_managed c s m f.adapter) s.flights)

-- a later command on the manager was done
abbrev pub is_overtaken : Config → ℕ → List Entry → ℕ → Bool
is_overtaken c m [] r = false
is_overtaken c m (Admit w a verdict ∷ past) r =
    if a == r then false else is_some (order_for c m (command_done past (Admit w a verdict))) || is_overtaken c m past r
is_overtaken c m (e ∷ past) r = is_overtaken c m past r

-- the activations begun by then, in the manager's adapters that have a servant activator, are void or finished
abbrev pub are_ended : Config → Standing → ℕ → ℕ → Bool
are_ended c s m begun =
    list_all (λ a. is_over c a || (not (nat_lt a.number begun) || not (has_activator c a.path && (manager_at c a.path == m)))) s.activations

abbrev pub order_holds : Config → ℕ → List Entry → ℕ → ℕ → Order → Bool
order_holds c run h r m (Hold wait) = is_quiet c (standing c run h) m || is_overtaken c m h r
order_holds c run h r m (Discard wait) = is_quiet c (standing c run h) m || is_overtaken c m h r
order_holds c run h r m (Deactivate etherealize wait) =
    is_quiet c (standing c run h) m
    && (not etherealize || are_ended c (standing c run h) m (length (standing c run (before_admit h r)).activations))
order_holds c run h r m Activate = true

-- the condition of the command that waits holds after the history
abbrev pub settles_by : Config → ℕ → List Entry → ℕ → Option Command → Bool
settles_by c run h r (Some (Manager name order)) = elim (manager_number c name) [ Some m ↦ order_holds c run h r m order | None ↦ false ]
settles_by c run h r (Some (Destroy p etherealize wait)) = is_gone c (standing c run h) (number_at (standing c run (before_admit h r)) p)
settles_by c run h r command = false

abbrev pub settles : Config → ℕ → List Entry → ℕ → Bool
settles c run h r = settles_by c run h r (command_in (call_of h r))
