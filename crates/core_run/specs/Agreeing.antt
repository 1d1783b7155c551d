-- What the core keeps beside its journal agrees with what stands after it, by the definitions.
use Rattle.std.specs.Prelude.{◌≡◌, ℕ, filter}
use Rattle.history_standing.specs.Arrivals.{arrivals}
use Rattle.history_standing.specs.Standings.{Standing}
use Rattle.history_standing.specs.Changes.{standing}
use Rattle.poa_history.specs.Turns.{removal}
use Rattle.active_map.specs.Live.{live}
use Rattle.poa_history.specs.Numbers.{below}
use Rattle.core_standing.specs.Seen.{seen}
use Rattle.held_queue.specs.Held.{HeldAgrees}
use Rattle.poa_history.specs.Waiting.{is_waiting}
use Rattle.core_arrivals.specs.Queued.{is_waiting_line}
use Rattle.core_state.specs.declared.state.State.{State}
use Rattle.core_run.specs.declared.tables.Tables.{Tables}
use Rattle.poa_history.specs.Life.{Life}

-- what stands after the history of the run
abbrev pub stands : Life → Standing
stands l = standing l.config l.run l.history

-- the requests and trials in flight are those that stand, and so every count of them is that of the history
pub record CountsAgree (l : Life) (s : State) : Type 0 where
  pub flights : s.standing.flights.items ≡ (stands l).flights
  -- as many adapters were created, and object ids made
  pub created : s.standing.count ≡ (stands l).count
  pub made : s.standing.made ≡ (stands l).made

-- the calls that weren't admitted wait, requests and locates apart from lines, in the order of their arrival
pub record QueuesAgree (l : Life) (t : Tables) : Type 0 where
  pub messages : t.queue.messages.items ≡ filter (is_waiting l.history) (below (arrivals l.history))
  pub lines : t.queue.lines.items ≡ filter (is_waiting_line l.history) (below (arrivals l.history))
  -- each request and locate is ready to be asked, or stands with those that the same holds
  pub held : HeldAgrees l.config l.run l.history t.held

-- the activations that aren't over are those that stand, each as far as it has come, and ending where it is
pub record RemovalsAgree (l : Life) (s : State) : Type 0 where
  pub activations : live l.config (seen s.standing).activations ≡ live l.config (stands l).activations
  -- the removal that a worker finds due
  pub due : (w : ℕ) → removal l.config (seen s.standing) w ≡ removal l.config (stands l) w
