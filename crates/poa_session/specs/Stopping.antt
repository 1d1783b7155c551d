-- When a session may end, and what a look at the run says.
use Rattle.std.specs.Prelude.{◌≡◌, ℕ, List, true, false, Option, Some, None, IfSome}
use Rattle.poa_base.specs.declared.Entry.{Entry}
use Rattle.poa_base.specs.declared.SessionEnd.{SessionEnd}
use Rattle.poa_base.specs.declared.SessionEnd.TheVariants.{Shut, Abandoned}
use Rattle.history_standing.specs.Stages.{is_abandoned}
use Rattle.seat_lock.specs.declared.view.View.{View}
use Rattle.poa_history.specs.declared.Givens.{Givens}
use Rattle.poa_history.specs.Leaving.{is_shut}
use Rattle.poa_shared.specs.Seen.{Turns, past}
use Rattle.session_laws.specs.declared.Peer.{Peer}
use Rattle.session_laws.specs.Records.{arrived_by, filling_by}
use Rattle.session_laws.specs.Sessions.{CauseBy, Input, IsNext}

-- the session may end so, by what was heard and what stands
pub record MayEnd (peer : Peer) (c : ℕ) (w : View Givens Entry) (text : List ℕ) (end : SessionEnd) : Type 0 where
  pub input : Input peer text (arrived_by (past w) c) end
  pub cause : CauseBy peer (past w) (arrived_by (past w) c) text end
  pub filled : IfSome (filling_by (past w) c) (IsNext peer text (arrived_by (past w) c))

-- the run is shut or abandoned, where that ends the session
abbrev pub Stops : List Entry → Option SessionEnd → Type 0
Stops h None = is_shut h ≡ false
Stops h (Some Shut) = is_shut h ≡ true
Stops h (Some (Abandoned worker)) = is_abandoned h worker ≡ true
Stops h (Some end) = ⊥

-- the seat looked at the run, and made nothing
pub record Looks (g : Givens) (v w : View Givens Entry) (result : Option SessionEnd) : Type 0 where
  pub turns : Turns g v (past w) w
  pub stops : Stops (past w) result
