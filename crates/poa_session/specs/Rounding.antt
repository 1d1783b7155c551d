-- What a round of a session does.
use Rattle.std.specs.Prelude.{◌≡◌, ℕ, ◌+◌, ◌^◌, ◌≤◌, List, [], ◌++◌, length, true, None}
use Rattle.poa_base.specs.declared.Entry.{Entry}
use Rattle.seat_lock.specs.declared.view.View.{View}
use Rattle.outside.specs.Link.{Shown, Moves}
use Rattle.poa_history.specs.declared.Givens.{Givens}
use Rattle.poa_shared.specs.Seen.{past}
use Rattle.session_laws.specs.declared.Peer.{Peer}
use Rattle.session_laws.specs.Hearing.{Heard, AreSaid}
use Rattle.session_laws.specs.Records.{arrived_by, filling_by, is_late_by}
use Rattle.session_laws.specs.Sessions.{Begins, is_settling}
use Rattle.session_laws.specs.Expecting.{Expects}
use Rattle.session_laws.specs.HearingPieces.{Intake, KnowsFirst, OfIntake}
use Rattle.poa_session.specs.Growing.{Adds}
use Rattle.poa_session.specs.Served.{DriesUp}
use Rattle.poa_session.specs.declared.flow.Flow.{Flow}
use Rattle.poa_session.specs.declared.flow.Flow.TheVariants.{On, Ends, Broke}
use Rattle.poa_session.specs.Paying.{BreaksOff}
use Rattle.poa_session.specs.Stopping.{MayEnd}

-- the session goes on with more text; or it may end so; or what it wrote breaks off
abbrev pub AsFlow : Peer → ℕ → View Givens Entry → Intake → List ℕ → List ℕ → List ℕ → Shown → Flow → Type 0
AsFlow peer c w j text due done shown On = (filling_by (past w) c ≡ None) × Expects peer (OfIntake j) text (arrived_by (past w) c)
AsFlow peer c w j text due done shown (Ends end) = (done ≡ due) × MayEnd peer c w text end × DriesUp peer text end shown
AsFlow peer c w j text due done shown (Broke end) = BreaksOff (past w) end due done × Begins peer text (arrived_by (past w) c)
    × (filling_by (past w) c ≡ None)

-- where a session goes on, all replies that were given are written, and the piece is taken in
abbrev pub GoesOn : Intake → Intake → List ℕ → List ℕ → List ℕ → Flow → Type 0
GoesOn i j piece due done On = (done ≡ due) × (j.taken ≡ i.taken + length piece)
GoesOn i j piece due done (Ends end) = Unit {0}
GoesOn i j piece due done (Broke end) = Unit {0}

-- behind a round it is known of which version a client's first message is, where more is written
abbrev pub KnowsRound : Peer → Intake → List ℕ → Flow → Type 0
KnowsRound peer j text On = KnowsFirst peer j.ear text
KnowsRound peer j text (Ends end) = is_settling end ≡ true → KnowsFirst peer j.ear text
KnowsRound peer j text (Broke end) = Unit {0}

-- one round of a session: calls arrived, replies were given and written, and a piece was read
pub record Rounds (g : Givens) (peer : Peer) (c : ℕ) (v : View Givens Entry) (a : Shown) (i : Intake) (w : View Givens Entry) (b : Shown)
    (j : Intake) (flow : Flow) : Type 0 where
  pub piece : List ℕ
  pub calls : List Heard
  pub said : AreSaid calls
  pub due : List ℕ
  pub done : List ℕ
  pub adds : Adds g c v w calls due
  pub moved : Moves a b piece done
  pub few : i.taken ≤ 2 ^ 40 → i.taken + length piece ≤ 2 ^ 40
  pub silent : is_late_by (past v) c ≡ true → calls ≡ []
  pub goes_on : GoesOn i j piece due done flow
  pub first : (text : List ℕ) → KnowsFirst peer i.ear text → KnowsRound peer j (text ++ piece) flow
  pub flows : (text : List ℕ) → length text ≡ i.taken → filling_by (past v) c ≡ None
      → Expects peer (OfIntake i) text (arrived_by (past v) c)
      → AsFlow peer c w j (text ++ piece) due done b flow
