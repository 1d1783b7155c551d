-- Which adapters were created, and in which order, as the entries say it (CORBA 3.3 Part 1, section 15.3.9: create_POA;
-- section 15.3.3: unknown_adapter).
use Rattle.std.specs.Prelude.{◌≡◌, ℕ, not, ◌&&◌, List, [], ◌∷◌, ◌++◌, map, filter, length}
use Rattle.std.specs.Prelude.{Option, Some, None, option_map, option_and_then}
use Rattle.poa_base.specs.declared.Config.{Config}
use Rattle.poa_base.specs.declared.Command.{Command}
use Rattle.poa_base.specs.declared.Command.TheVariants.{Create}
use Rattle.poa_base.specs.declared.Entry.{Entry}
use Rattle.poa_base.specs.declared.Entry.TheVariants.{Tried}
use Rattle.poa_base.specs.declared.Attempt.TheVariants.{Yes}
use Rattle.history_standing.specs.Paths.{is_root}
use Rattle.history_standing.specs.Walks.{walk, child_met}
use Rattle.history_standing.specs.Arrivals.{call_of}
use Rattle.history_standing.specs.Changes.{standing}
use Rattle.history_standing.specs.Keys.{key_in}
use Rattle.history_standing.specs.Logs.{command_done}
use Rattle.poa_history.specs.Settling.{before_admit}
use Rattle.history_standing.specs.Stages.{stage, arrival_in}

-- the root, and behind it the adapters that are created at opening, in their configured order
abbrev pub paths_opened : Config → List (List (List ℕ))
paths_opened c = [] ∷ map (λ a. a.path) (filter (λ a. a.boot && not (is_root a.path)) c.adapters)

-- the child that an adapter activator is asked for: the first that was missing on the way along the key of the arrival
-- when it was admitted
abbrev pub child_asked : Config → ℕ → List Entry → ℕ → Option (List (List ℕ))
child_asked c run past r =
    option_map (λ key. child_met (walk (standing c run (before_admit past r)).nodes key.path) key.path) (key_in (call_of past r))

-- the adapter that a command creates
abbrev pub path_ordered : Option Command → Option (List (List ℕ))
path_ordered (Some (Create p)) = Some p
path_ordered command = None

-- the adapter that an entry creates: the child that an activator was asked for, where it says yes, or that of a `create`
abbrev pub path_created : Config → ℕ → List Entry → Entry → Option (List (List ℕ))
path_created c run past (Tried w (Yes number)) = option_and_then (child_asked c run past) (arrival_in (stage past w))
path_created c run past e = path_ordered (command_done past e)

-- the path is one more
abbrev pub with_path : List (List (List ℕ)) → Option (List (List ℕ)) → List (List (List ℕ))
with_path paths (Some p) = paths ++ p ∷ []
with_path paths None = paths

-- the paths of all that were created, in the order of their creation
abbrev pub paths_created : Config → ℕ → List Entry → List (List (List ℕ))
paths_created c run [] = paths_opened c
paths_created c run (e ∷ past) = with_path (paths_created c run past) (path_created c run past e)

-- an activator that says yes says the next number
abbrev pub NumbersNext : Config → ℕ → List Entry → Entry → Type 0
NumbersNext c run past (Tried w (Yes number)) = number ≡ length (paths_created c run past)
NumbersNext c run past e = Unit {0}
