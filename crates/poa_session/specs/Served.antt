-- How a connection was served, as the seat and the link show it.
use Rattle.std.specs.Prelude.{◌≡◌, ℕ, ◌^◌, ◌≤◌, ◌⊎◌, List, [], ◌∷◌, ◌++◌, length, true, MatchOption}
use mathlib.Core.Option.{some}
use lib.ListN.{get_elem?}
use Rattle.poa_base.specs.declared.Entry.{Entry}
use Rattle.poa_base.specs.declared.Entry.TheVariants.{Entered, Left}
use Rattle.poa_base.specs.declared.Session.{Session as Ending}
use Rattle.poa_base.specs.declared.SessionEnd.{SessionEnd}
use Rattle.poa_base.specs.declared.SessionEnd.TheVariants.{Ended, Truncated, ReadFault, WriteFault, Limit, WantMemory}
use Rattle.history_standing.specs.Arrivals.{arrivals, arrived_bytes, connections}
use Rattle.seat_lock.specs.Histories.{IsPrefix}
use Rattle.seat_lock.specs.Steps.{Knows}
use Rattle.seat_lock.specs.declared.view.View.{View}
use Rattle.outside.specs.Cause.{Rose}
use Rattle.outside.specs.Link.{Shown, Moves, IsDry}
use Rattle.poa_shared.specs.Seen.{past}
use Rattle.poa_history.specs.declared.Givens.{Givens}
use Rattle.poa_history.specs.Owners.{owner_of}
use Rattle.poa_history.specs.GivenRuns.{IsLog}
use Rattle.session_laws.specs.declared.Peer.{Peer}
use Rattle.session_laws.specs.Records.{arrived, places, is_late}
use Rattle.giop_answer.specs.declared.kind.TheConstants.{MINOR}
use Rattle.session_laws.specs.Sessions.{Cause, HasClosing, Session, closing}

-- after Truncated, and after Ended without a CloseConnection, the link had nothing left
abbrev pub DriesUp : Peer → List ℕ → SessionEnd → Shown → Type 0
DriesUp peer text (Truncated have) shown = IsDry shown
DriesUp peer text Ended shown = HasClosing peer text ⊎ IsDry shown
DriesUp peer text end shown = Unit {0}

-- the connection c entered by the seat and has left: what was read and written is its session by all that the seat has seen,
-- and the seat made its entries
pub record ServedAs (g : Givens) (peer : Peer) (v w : View Givens Entry) (a b : Shown) (c : ℕ) (end : SessionEnd) : Type 0 where
  pub stood : List Entry
  pub text : List ℕ
  pub out : List ℕ
  pub left : w.seen ≡ stood ++ Left c ∷ []
  pub moved : Moves a b text out
  pub few : length text ≤ 2 ^ 40
  pub session : Session g peer w.seen c text out end
  pub cause : Cause peer stood c text end
  pub read_fault : end ≡ ReadFault → Rose a.read_faults b.read_faults
  pub write_fault : end ≡ WriteFault → Rose a.write_faults b.write_faults
  pub dry : DriesUp peer text end b
  pub place : ℕ
  pub later : length v.seen ≤ place
  pub entered : get_elem? w.seen place ≡ some (Entered c)
  pub mine : w.mine ≡ v.mine ++ places c w.seen
  pub silent : is_late c w.seen ≡ true → arrived c w.seen ≡ []

-- why no connection could enter: the run had 4,000,000, with so many calls and bytes of calls
abbrev pub TurnedAway : List Entry → SessionEnd → Type 0
TurnedAway h (Limit calls bytes) = (4000000 ≤ connections h) × (calls ≡ arrivals h) × (bytes ≡ arrived_bytes h)
TurnedAway h WantMemory = Unit {0}
TurnedAway h end = ⊥

-- no connection entered: nothing was read, and the message that closes a connection was written where the end has one, in the
-- newest version, and all of it unless a write failed
pub record RefusedAs (peer : Peer) (v w : View Givens Entry) (a b : Shown) (end : SessionEnd) : Type 0 where
  pub out : List ℕ
  pub moved : Moves a b [] out
  pub whole : (out ≡ closing peer MINOR end) ⊎ (IsPrefix out (closing peer MINOR end) × Rose a.write_faults b.write_faults)
  pub cause : TurnedAway (past w) end
  pub mine : w.mine ≡ v.mine

-- what a link's serving did to the seat and the link
pub record Served (g : Givens) (peer : Peer) (v w : View Givens Entry) (a b : Shown) (session : Ending) : Type 0 where
  pub grows : IsPrefix v.seen w.seen
  pub runs : IsLog g w.seen
  pub knows : Knows owner_of w w.seen
  pub given : w.givens ≡ v.givens
  pub base : w.base ≡ v.base
  pub room : w.room ≡ v.room
  pub told : MatchOption session.conn (RefusedAs peer v w a b session.end) (λ c. ServedAs g peer v w a b c session.end)
