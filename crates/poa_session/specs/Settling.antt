-- How a session comes to its end.
use Rattle.std.specs.Prelude.{◌≡◌, ℕ, ◌^◌, ◌≤◌, ◌⊎◌, List, [], ◌++◌, length, true, None}
use Rattle.poa_base.specs.declared.Entry.{Entry}
use Rattle.poa_base.specs.declared.Session.{Session}
use Rattle.poa_base.specs.declared.SessionEnd.{SessionEnd}
use Rattle.poa_base.specs.declared.SessionEnd.TheVariants.{Limit, WantMemory}
use Rattle.seat_lock.specs.Histories.{IsPrefix}
use Rattle.seat_lock.specs.declared.view.View.{View}
use Rattle.outside.specs.Cause.{Rose}
use Rattle.outside.specs.Link.{Shown, Moves}
use Rattle.poa_history.specs.declared.Givens.{Givens}
use Rattle.poa_history.specs.GivenRuns.{IsHistory}
use Rattle.poa_core.specs.declared.EnterFault.{EnterFault}
use Rattle.poa_core.specs.declared.EnterFault.TheVariants as enter_fault
use Rattle.poa_shared.specs.Seen.{past}
use Rattle.session_laws.specs.declared.Peer.{Peer}
use Rattle.session_laws.specs.Hearing.{Heard}
use Rattle.session_laws.specs.Records.{arrived_by, joined_by, filling_by, is_late_by}
use Rattle.giop_answer.specs.declared.kind.TheConstants.{MINOR}
use Rattle.session_laws.specs.HearingPieces.{Intake, KnowsFirst}
use Rattle.session_laws.specs.Sessions.{CauseBy, SessionBy, closing, is_settling}
use Rattle.poa_session.specs.Growing.{Adds}
use Rattle.poa_session.specs.Served.{DriesUp}
use Rattle.poa_session.specs.Stopping.{MayEnd}

-- what a session that may end so has come to, where these bytes were written in the end
pub record Settled (g : Givens) (peer : Peer) (c : ℕ) (w : View Givens Entry) (text out : List ℕ) (end : SessionEnd)
    (shown : Shown) : Type 0 where
  pub session : SessionBy g peer (past w) c text out end
  pub cause : CauseBy peer (past w) (arrived_by (past w) c) text end
  pub dry : DriesUp peer text end shown

-- everything that is owed is paid and the connection closed, where the end asks it
pub record Settles (g : Givens) (peer : Peer) (c : ℕ) (v : View Givens Entry) (a : Shown) (i : Intake) (w : View Givens Entry) (b : Shown)
    (end result : SessionEnd) : Type 0 where
  pub due : List ℕ
  pub done : List ℕ
  pub adds : Adds g c v w [] due
  pub moved : Moves a b [] done
  pub settled : (text : List ℕ) → IsHistory g (past v) → MayEnd peer c v text end → DriesUp peer text end a
      → (is_settling end ≡ true → KnowsFirst peer i.ear text)
      → Settled g peer c w text (joined_by g (past v) c ++ done) result b

-- the connection was served from its entering to the end of its session
pub record Converses (g : Givens) (peer : Peer) (c : ℕ) (v : View Givens Entry) (a : Shown) (w : View Givens Entry) (b : Shown)
    (end : SessionEnd) : Type 0 where
  pub text : List ℕ
  pub out : List ℕ
  pub calls : List Heard
  pub replies : List ℕ
  pub adds : Adds g c v w calls replies
  pub moved : Moves a b text out
  pub few : length text ≤ 2 ^ 40
  pub silent : is_late_by (past v) c ≡ true → calls ≡ []
  pub settled : IsHistory g (past v) → arrived_by (past v) c ≡ [] → joined_by g (past v) c ≡ [] → filling_by (past v) c ≡ None
      → Settled g peer c w text out end b

-- how a session ends that couldn't begin
abbrev pub refusal : EnterFault → SessionEnd
refusal (enter_fault.Limit conns calls bytes) = Limit calls bytes
refusal enter_fault.WantMemory = WantMemory

-- a link is closed whose connection couldn't enter: nothing was read
pub record TurnsAway (peer : Peer) (fault : EnterFault) (a b : Shown) (session : Session) : Type 0 where
  pub out : List ℕ
  pub moved : Moves a b [] out
  pub whole : (out ≡ closing peer MINOR (refusal fault)) ⊎ (IsPrefix out (closing peer MINOR (refusal fault)) × Rose a.write_faults b.write_faults)
  pub is : session ≡ record { conn = None; end = refusal fault }
