-- What the reading of an input does.
use Rattle.std.specs.Prelude.{◌≡◌, ℕ, List, [], ◌∷◌, None, Result, Ok, Err, IfOk}
use Rattle.std.specs.declared.alloc.AllocError.{AllocError}
use Rattle.poa_base.specs.declared.Call.{Call}
use Rattle.poa_base.specs.declared.Entry.{Entry}
use Rattle.poa_base.specs.declared.SessionEnd.{SessionEnd}
use Rattle.seat_lock.specs.declared.view.View.{View}
use Rattle.outside.specs.Link.{Shown}
use Rattle.poa_history.specs.declared.Givens.{Givens}
use Rattle.poa_history.specs.Legal.{IsSize}
use Rattle.poa_shared.specs.Seen.{past}
use Rattle.session_laws.specs.declared.Peer.{Peer}
use Rattle.session_laws.specs.Hearing.{Heard, AreSaid, over}
use Rattle.session_laws.specs.Records.{arrived_by, filling_by}
use Rattle.session_laws.specs.Sessions.{IsNext}
use Rattle.session_laws.specs.Expecting.{Expects}
use Rattle.session_laws.specs.HearingPieces.{AsTold, Intake, OfIntake}
use Rattle.session_laws.specs.declared.Told.{Told}
use Rattle.session_laws.specs.declared.Told.TheVariants as told
use Rattle.poa_session.specs.Growing.{Adds}
use Rattle.poa_session.specs.Served.{DriesUp}
use Rattle.poa_session.specs.declared.progress.Progress.{Progress}
use Rattle.poa_session.specs.declared.progress.Progress.TheVariants as progress
use Rattle.poa_session.specs.Stopping.{MayEnd}

-- this is what the first input says next, and the second is left behind it; or there was no memory for it
abbrev pub IsNextTold : Intake → Result Told AllocError → Intake → Type 0
IsNextTold i result j = IfOk result (λ t. AsTold t (OfIntake i) (OfIntake j)) × (j.taken ≡ i.taken)

-- it was read of an input of which this is left
abbrev pub Comes : Result Told AllocError → Intake → Type 0
Comes result j = (i : Intake) × IsNextTold i result j

-- a call has the size of a message or a line
abbrev pub IsSized : Result Told AllocError → Type 0
IsSized (Ok (told.Call call size)) = IsSize size
IsSized other = Unit {0}

-- all calls that stand whole arrived, and so many bytes are left over; or the session ends so
abbrev pub AsListened : Peer → ℕ → View Givens Entry → Intake → View Givens Entry → Intake → Result ℕ SessionEnd → Type 0
AsListened peer c v i w j (Ok have) =
    (filling_by (past w) c ≡ filling_by (past v) c) × OfIntake j [] [] (over have)
    × ((text : List ℕ) → Expects peer (OfIntake i) text (arrived_by (past v) c) → Expects peer (OfIntake j) text (arrived_by (past w) c))
AsListened peer c v i w j (Err end) =
    (text : List ℕ) → filling_by (past v) c ≡ None → Expects peer (OfIntake i) text (arrived_by (past v) c)
    → MayEnd peer c w text end × ((shown : Shown) → DriesUp peer text end shown)

pub record Listens (g : Givens) (peer : Peer) (c : ℕ) (v : View Givens Entry) (i : Intake) (w : View Givens Entry) (j : Intake)
    (result : Result ℕ SessionEnd) : Type 0 where
  pub calls : List Heard
  pub said : AreSaid calls
  pub adds : Adds g c v w calls []
  pub heard : AsListened peer c v i w j result
  pub taken : j.taken ≡ i.taken

-- the call arrived; or it didn't, and the session may end so, where it was the next of what the peer sent
abbrev pub AsArrived : Givens → ℕ → Call → ℕ → View Givens Entry → View Givens Entry → Progress → Type 0
AsArrived g c call size v w progress.On = Adds g c v w (record { call = call; size = size } ∷ []) []
    × (filling_by (past w) c ≡ filling_by (past v) c)
AsArrived g c call size v w (progress.Waits have) = ⊥
AsArrived g c call size v w (progress.Ends end) =
    Adds g c v w [] []
    × ((peer : Peer) (text : List ℕ) → filling_by (past v) c ≡ None → IsNext peer text (arrived_by (past v) c) size
    → MayEnd peer c w text end)
    × ((peer : Peer) (text : List ℕ) (shown : Shown) → DriesUp peer text end shown)

-- the input may say more
abbrev pub AsHeard : Peer → ℕ → View Givens Entry → Intake → View Givens Entry → Intake → Progress → Type 0
AsHeard peer c v i w j progress.On =
    (filling_by (past w) c ≡ filling_by (past v) c)
    × ((text : List ℕ) → Expects peer (OfIntake i) text (arrived_by (past v) c) → Expects peer (OfIntake j) text (arrived_by (past w) c))
AsHeard peer c v i w j (progress.Waits have) = AsListened peer c v i w j (Ok have)
AsHeard peer c v i w j (progress.Ends end) = AsListened peer c v i w j (Err end)

pub record Hears (g : Givens) (peer : Peer) (c : ℕ) (v : View Givens Entry) (i : Intake) (w : View Givens Entry) (j : Intake)
    (result : Progress) : Type 0 where
  pub calls : List Heard
  pub said : AreSaid calls
  pub adds : Adds g c v w calls []
  pub heard : AsHeard peer c v i w j result
  pub taken : j.taken ≡ i.taken
