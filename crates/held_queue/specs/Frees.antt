-- Which entries may end what holds a call.
use Rattle.std.specs.Prelude.{ℕ, Bool, true, false, ◌||◌, if◌then◌else◌, List, Option, Some, None, option_map, option_and_then}
use Rattle.poa_base.specs.declared.Config.{Config}
use Rattle.poa_base.specs.declared.Entry.{Entry}
use Rattle.poa_base.specs.declared.Entry.TheVariants.{Admit, Tried, Incarnated, Done, TakeOut, Etherealized}
use Rattle.history_standing.specs.declared.stage.Stage.{Stage}
use Rattle.history_standing.specs.declared.stage.Stage.TheVariants.{Incarnating, Removing}
use Rattle.history_standing.specs.Changes.{standing}
use Rattle.history_standing.specs.Logs.{is_accepted}
use Rattle.history_standing.specs.Stages.{stage, arrival_in, is_at}
use Rattle.history_standing.specs.Standings.{Standing}
use Rattle.poa_history.specs.Turns.{flight_of, activation_numbered}
use Rattle.held_queue.specs.declared.freed.Freed.{Freed}
use Rattle.held_queue.specs.declared.hold.Hold.{Hold}
use Rattle.held_queue.specs.declared.hold.Hold.TheVariants.{Manager, Trial, Turn, Main, Id, Change}

abbrev pub nothing : Freed
nothing = record { all = false; landed = None; changed = None; moved = None }

abbrev pub everything : Freed
everything = record { all = true; landed = None; changed = None; moved = None }

-- the request or trial of an arrival ends
abbrev pub landing : Standing → Option ℕ → Freed
landing s None = nothing
landing s (Some r) = record {
  all = false;
  landed = option_map (λ f. f.adapter) (flight_of s r);
  changed = None;
  moved = option_and_then (λ f. f.activation) (flight_of s r);
}

-- an incarnation ends
abbrev pub incarnating : Standing → Stage → Freed
incarnating s (Incarnating r n) = record (landing s (Some r)) { changed = option_map (λ f. f.adapter) (flight_of s r) }
incarnating s begun = nothing

-- an etherealization ends
abbrev pub etherealizing : Standing → Stage → Freed
etherealizing s (Removing n) =
    record { all = false; landed = None; changed = option_map (λ a. a.adapter) (activation_numbered s n); moved = Some n }
etherealizing s begun = nothing

-- what an entry frees; a command that is done, and a trial that ends, may free whatever is held
abbrev pub freed_by : Config → ℕ → List Entry → Entry → Freed
freed_by c run past (Admit w r verdict) = if is_accepted verdict then everything else nothing
freed_by c run past (Tried w answer) = everything
freed_by c run past (Incarnated w answer) = incarnating (standing c run past) (stage past w)
freed_by c run past (Done w) = landing (standing c run past) (arrival_in (stage past w))
freed_by c run past (TakeOut w n true) = nothing
freed_by c run past (TakeOut w n false) = record nothing { moved = Some n }
freed_by c run past (Etherealized w cleanup remaining) = etherealizing (standing c run past) (stage past w)
freed_by c run past e = nothing

-- whether what holds a call may have ended
abbrev pub frees : Freed → Hold → Bool
frees f (Manager m) = f.all
frees f (Trial k) = f.all || is_at k f.landed
frees f (Turn k) = f.all || is_at k f.landed
frees f Main = f.all
frees f (Id n) = f.all || is_at n f.moved
frees f (Change k) = f.all || is_at k f.changed
