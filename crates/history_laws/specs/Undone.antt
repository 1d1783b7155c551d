-- What is left undone after a legal history. What was begun is in the hands of one worker; and where no worker has a next
-- entry, nothing is left but what a manager holds back (CORBA 3.3 Part 1, sections 15.2.4, 15.3.2, 15.3.6 and 15.3.9).
use Rattle.poa_base.specs.declared.Cause.TheVariants.{Manager as ManagerCause}
use Rattle.poa_base.specs.declared.Command.{Command}
use Rattle.poa_base.specs.declared.Command.TheVariants.{Shutdown}
use Rattle.poa_base.specs.declared.Config.{Config}
use Rattle.poa_base.specs.declared.Entry.{Entry}
use Rattle.poa_base.specs.declared.Entry.TheVariants.{Etherealized}
use Rattle.poa_base.specs.declared.ManagerState.TheVariants.{Holding}
use Rattle.poa_choose.specs.Table.{first_row}
use Rattle.poa_choose.specs.declared.Choice.TheVariants.{Held}
use Rattle.history_standing.specs.Arrivals.{arrivals, call_of, is_message}
use Rattle.history_standing.specs.Changes.{standing}
use Rattle.history_standing.specs.Ends.{is_finished, is_gone, is_over}
use Rattle.history_standing.specs.Logs.{command_done, manager_state}
use Rattle.poa_history.specs.Replies.{decided}
use Rattle.history_standing.specs.Situations.{facts_of}
use Rattle.history_standing.specs.Stages.{is_unadmitted, stage}
use Rattle.history_standing.specs.Standings.{is_ending}
use Rattle.history_standing.specs.Templates.{has_activator}
use Rattle.poa_history.specs.Turns.{turn}
use Rattle.history_standing.specs.declared.activation.Activation.{Activation}
use Rattle.history_standing.specs.declared.activation.Phase.TheVariants.{Begun}
use Rattle.history_standing.specs.declared.flight.Flight.{Flight}
use Rattle.history_standing.specs.declared.stage.Stage.{Stage}
use Rattle.history_standing.specs.declared.stage.Stage.TheVariants.{Free, Incarnating, Ran, Removing, Serving, Trying}
use Rattle.history_standing.specs.Paths.{is_root}
use Rattle.history_standing.specs.Trees.{In}
use Rattle.history_standing.specs.declared.node.Node.{Node}
use Rattle.std.specs.Prelude.{◌<◌, ◌==◌, ◌||◌, ◌∷◌, ◌≡◌, Bool, List, None, Option, Some, [], false, is_some, true, ℕ}

-- exactly one of the sixteen workers has begun it
pub record IsWithOne (h : List Entry) (Begins : Stage → Type 0) : Type 0 where
  pub worker : ℕ
  pub below : worker < 16
  pub begun : Begins (stage h worker)
  pub alone : (w : ℕ) → Begins (stage h w) → w ≡ worker

-- the worker is at what is in flight: at a trial of a missing child, or at a request that is brought a servant, runs or ends
abbrev pub IsAtFlight : Flight → Stage → Type 0
IsAtFlight f (Trying r) = (r ≡ f.arrival) × (is_some f.child ≡ true)
IsAtFlight f (Incarnating r n) = (r ≡ f.arrival) × (f.activation ≡ Some n) × (f.child ≡ None)
IsAtFlight f (Serving r) = (r ≡ f.arrival) × (f.child ≡ None)
IsAtFlight f (Ran r) = (r ≡ f.arrival) × (f.child ≡ None)
IsAtFlight f (Removing n) = ⊥
IsAtFlight f Free = ⊥

-- the worker has the servant of this activation brought
abbrev pub IsIncarnating : ℕ → Stage → Type 0
IsIncarnating n begun = (r : ℕ) × (begun ≡ Incarnating r n)

-- the worker has the servant of this activation etherealized
abbrev pub IsRemoving : ℕ → Stage → Type 0
IsRemoving n begun = begun ≡ Removing n

-- what was begun and hasn't ended is in the hands of one worker
pub record IsInHand (c : Config) (run : ℕ) (h : List Entry) : Type 0 where
  -- each request in flight, and each trial
  pub flying : (f : Flight) → In f (standing c run h).flights → IsWithOne h (IsAtFlight f)
  -- each incarnation
  pub incarnating : (a : Activation) → In a (standing c run h).activations → a.phase ≡ Begun → IsWithOne h (IsIncarnating a.number)
  -- each etherealization: of an activation that a servant activator is to be told of, out and not etherealized
  pub removing : (a : Activation) → In a (standing c run h).activations → has_activator c a.path ≡ true → a.out ≡ true
      → a.quiet ≡ false → a.etherealized ≡ false → IsWithOne h (IsRemoving a.number)

-- none of the sixteen workers has a next entry
abbrev pub AreIdle : Config → ℕ → List Entry → Type 0
AreIdle c run h = (w : ℕ) → w < 16 → turn c run h w ≡ None

-- the arrival is a request or a locate, and a manager in the state HOLDING holds it back from every worker
pub record IsHeldBack (c : Config) (run : ℕ) (h : List Entry) (r : ℕ) : Type 0 where
  pub message : is_message (call_of h r) ≡ true
  pub manager : ℕ
  pub holding : manager_state c h manager ≡ Holding
  pub held : (w : ℕ) → first_row (facts_of c run h r) w ≡ Held (Some (ManagerCause manager))

-- nothing is left but what a manager holds back
pub record IsAllDone (c : Config) (run : ℕ) (h : List Entry) : Type 0 where
  -- nothing is in flight
  pub landed : (standing c run h).flights ≡ []
  -- every activation that is ending is finished
  pub finished : (a : Activation) → In a (standing c run h).activations → is_ending a ≡ true → is_finished c a ≡ true
  -- every adapter that was destroyed is gone; of these the root alone still stands
  pub gone : (n : Node) → In n (standing c run h).nodes → n.dying ≡ true
      → (is_root n.path ≡ true) × (is_gone c (standing c run h) n.number ≡ true)
  -- every arrival that is unadmitted is held back by a manager
  pub held : (r : ℕ) → r < arrivals h → is_unadmitted h r ≡ true → IsHeldBack c run h r

-- a `shutdown` was done
abbrev pub is_shutdown_done : Option Command → Bool
is_shutdown_done (Some Shutdown) = true
is_shutdown_done command = false

abbrev pub was_shut : List Entry → Bool
was_shut [] = false
was_shut (e ∷ past) = is_shutdown_done (command_done past e) || was_shut past

-- every activation is void or finished, and every call is decided
pub record IsAllOver (c : Config) (run : ℕ) (h : List Entry) : Type 0 where
  pub over : (a : Activation) → In a (standing c run h).activations → is_over c a ≡ true
  pub answered : (r : ℕ) → r < arrivals h → decided c run h r ≡ true

-- the servant of this activation was etherealized
abbrev pub is_removing : ℕ → Stage → Bool
is_removing n (Removing m) = m == n
is_removing n begun = false

abbrev pub was_told : List Entry → ℕ → Bool
was_told [] n = false
was_told (Etherealized w cleanup remaining ∷ past) n = is_removing n (stage past w) || was_told past n
was_told (e ∷ past) n = was_told past n
