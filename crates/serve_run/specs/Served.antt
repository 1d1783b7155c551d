-- What a run of the server comes to, read on the journal of the core that is given back. A place is an index into the journal.
use Rattle.std.specs.Prelude.{◌≡◌, ℕ, ◌^◌, ◌<◌, ◌≤◌, ◌⊎◌, Bool, true, false, not, ◌&&◌, ◌||◌, List, [], ◌∷◌, ◌++◌, length, reverse, Option, Some, MatchOption}
use mathlib.Core.Option.{some}
use lib.ListN.{get_elem?}
use Rattle.outside.specs.Accepting.{Standing}
use Rattle.outside.specs.Cause.{Rose}
use Rattle.outside.specs.Link.{Shown, Moves}
use Rattle.poa_base.specs.declared.Entry.{Entry}
use Rattle.poa_base.specs.declared.Entry.TheVariants.{Admit, Left}
use Rattle.poa_base.specs.declared.SessionEnd.{SessionEnd}
use Rattle.poa_base.specs.declared.SessionEnd.TheVariants.{ReadFault, WriteFault}
use Rattle.history_standing.specs.Arrivals.{arrivals, call_of, conn_of, connections}
use Rattle.poa_history.specs.Legal.{is_filled}
use Rattle.history_standing.specs.Changes.{standing}
use Rattle.history_standing.specs.Ends.{is_over}
use Rattle.poa_history.specs.Replies.{decided}
use Rattle.history_standing.specs.Stages.{is_abandoned, is_at}
use Rattle.history_standing.specs.declared.activation.Activation.{Activation}
use Rattle.poa_session.specs.Served.{DriesUp, TurnedAway}
use Rattle.history_standing.specs.Trees.{In as IsAmong}
use Rattle.poa_history.specs.declared.givens.Givens.{Givens}
use Rattle.poa_history.specs.declared.phase.Phase.TheVariants.{Full, Shut}
use Rattle.poa_history.specs.Owners.{owner_of, worker_of}
use Rattle.seat_lock.specs.Histories.{times, Belongs, In, IsPrefix}
use Rattle.poa_history.specs.Leaving.{is_shut_by}
use Rattle.session_laws.specs.declared.peer.Peer.{Peer}
use Rattle.session_laws.specs.Sessions.{Cause, Session}
use Rattle.serve_run.specs.Doors.{HasSaidEnd}
use Rattle.serve_run.specs.Visits.{Visit}
use Rattle.serve_run.specs.declared.ran.PieceEnd.{PieceEnd}
use Rattle.serve_run.specs.declared.ran.PieceEnd.TheVariants.{DoorEnd, DoorFailed, NotRunning}
use Rattle.serve_run.specs.Holding.{IsOwn, IsWord}
use Rattle.serve_run.specs.Tours.{Tour}

-- the connection's session by the whole journal, with its bytes of this call, and why it ended by what stood as it left
pub record IsSession (g : Givens) (peer : Peer) (log : List Entry) (a b : Shown) (c : ℕ) (end : SessionEnd) : Type 0 where
  pub text : List ℕ
  pub out : List ℕ
  pub moved : Moves a b text out
  pub few : length text ≤ 2 ^ 40
  pub session : Session g peer log c text out end
  pub stood : List Entry
  pub left : IsPrefix (stood ++ Left c ∷ []) log
  pub cause : Cause peer stood c text end
  pub read_fault : end ≡ ReadFault → Rose a.read_faults b.read_faults
  pub write_fault : end ≡ WriteFault → Rose a.write_faults b.write_faults
  pub dry : DriesUp peer text end b

-- no connection entered: the run had as many as it may, or memory was wanting
abbrev pub IsTurnedAway : List Entry → SessionEnd → Type 0
IsTurnedAway log end = (stood : List Entry) × IsPrefix stood log × TurnedAway (reverse stood) end

module _ {L : Type 0} (g : Givens) (shown : L → Shown) (log : List Entry) where
  -- each link was served as its session tells
  abbrev pub EachSession : Peer → List (Visit L) → Type 0
  EachSession peer [] = Unit {0}
  EachSession peer (x ∷ earlier) =
      MatchOption x.session.conn (IsTurnedAway log x.session.end)
      (λ c. IsSession g peer log (shown x.before) (shown x.after) c x.session.end) × EachSession peer earlier

module _ {A L : Type 0} (g : Givens) (shown : L → Shown) (log : List Entry) where
  -- each link of each door
  abbrev pub EachDoor : List (Tour A L) → Type 0
  EachDoor [] = Unit {0}
  EachDoor (t ∷ more) = EachSession g shown log t.peer t.visits × EachDoor more

-- the connections that entered by doors are those of the journal but the first, each once
pub record AreConnections (conns : List ℕ) (log : List Entry) : Type 0 where
  pub all : (c : ℕ) → 0 < c → c < connections (reverse log) → In c conns
  pub only : (c : ℕ) → In c conns → (0 < c) × (c < connections (reverse log))
  pub once : (c : ℕ) → times c conns ≤ 1

-- no worker gave the run up
abbrev pub NoneGaveUp : List Entry → Type 0
NoneGaveUp log = (w : ℕ) → is_abandoned (reverse log) w ≡ false

-- no workers but those below this number made entries
abbrev pub WorkedBelow : ℕ → List Entry → Type 0
WorkedBelow workers log = (place w : ℕ) (e : Entry) → get_elem? log place ≡ some e → worker_of e ≡ Some w → w < workers

-- the run is over: every activation is void or finished, and every call of a connection but the first is decided
pub record IsRunOver (g : Givens) (log : List Entry) : Type 0 where
  pub over : (a : Activation) → IsAmong a (standing g.config g.run (reverse log)).activations → is_over g.config a ≡ true
  pub answered : (r c : ℕ) → r < arrivals (reverse log) → conn_of (reverse log) r ≡ Some c → 0 < c
      → decided g.config g.run (reverse log) r ≡ true

-- the first connection is the run's own. It entered, and says `shutdown` at most, or that the run is full
pub record IsFirst (last : Option (ℕ × Entry)) (log : List Entry) : Type 0 where
  pub word : IsWord last
  pub own : (place : ℕ) (e : Entry) → get_elem? log place ≡ some e → owner_of e ≡ Some 0 → IsOwn last place e

-- and it did so when every other connection had left
abbrev pub IsLastWord : Option (ℕ × Entry) → List Entry → Type 0
IsLastWord last log = (place : ℕ) (e : Entry) → last ≡ Some (place, e) → (k c : ℕ) → 0 < c → Belongs owner_of log k c → k < place

-- a `shutdown` was admitted that came on another connection than the first
abbrev pub is_shut_by_others : List Entry → Bool
is_shut_by_others [] = false
is_shut_by_others (Admit w r verdict ∷ past) = (is_shut_by (call_of past r) && not (is_at 0 (conn_of past r))) || is_shut_by_others past
is_shut_by_others (e ∷ past) = is_shut_by_others past

module _ {A L : Type 0} (standing_of : A → Option (Standing L)) (faults ends : A → ℕ) where
  -- why a door ended so: it said that no link is left, or it failed, and counted that; or a call was refused for the limits
  -- of the run, or a connection but the first had it shut down
  abbrev pub HasEnded : PieceEnd → List Entry → A → A → Type 0
  HasEnded DoorEnd log closed served = HasSaidEnd standing_of ends closed served
  HasEnded DoorFailed log closed served = Rose (faults closed) (faults served)
  HasEnded (NotRunning Full) log closed served = is_filled (reverse log) ≡ true
  HasEnded (NotRunning Shut) log closed served = is_shut_by_others (reverse log) ≡ true
  HasEnded end log closed served = ⊥

  abbrev pub EachEnded : List Entry → List (Tour A L) → Type 0
  EachEnded log [] = Unit {0}
  EachEnded log (t ∷ more) = HasEnded t.end log t.closed t.served × EachEnded log more
