-- What taking in a piece does.
use Rattle.std.specs.Prelude.{◌≡◌, ℕ, ◌+◌, ◌^◌, ◌≤◌, ◌<◌, List, [], ◌++◌, length, true, Option, Some, None}
use Rattle.poa_base.specs.declared.SessionEnd.{SessionEnd}
use Rattle.poa_base.specs.declared.SessionEnd.TheVariants.{Ended, ReadFault, Truncated, InputLimit, WantMemory}
use Rattle.outside.specs.Link.{Shown, Moves, IsDry}
use Rattle.session_laws.specs.Hearing.{Heard, Stop}
use Rattle.session_laws.specs.declared.Peer.{Peer}
use Rattle.session_laws.specs.HearingPieces.{Intake, KnowsFirst, OfIntake}
use Rattle.session_laws.specs.Sessions.{is_settling}

-- at the end of an input so many bytes are left over
abbrev pub EndsAt : ℕ → SessionEnd → Type 0
EndsAt have Ended = have ≡ 0
EndsAt have (Truncated bytes) = (bytes ≡ have) × (0 < have)
EndsAt have end = ⊥

-- a piece was taken in; or the session ends so, where so many bytes were left over before. Once it has read 2^40 bytes, no
-- read is made
abbrev pub AsTaken : Intake → Intake → ℕ → List ℕ → Shown → Option SessionEnd → Type 0
AsTaken i j have piece shown None =
    (j.taken ≡ i.taken + length piece)
    × ((next : List ℕ) (more : List Heard) (stop : Stop) → OfIntake j next more stop → OfIntake i (piece ++ next) more stop)
AsTaken i j have piece shown (Some Ended) = (piece ≡ []) × (i.taken < 2 ^ 40) × (have ≡ 0) × IsDry shown
AsTaken i j have piece shown (Some (Truncated bytes)) = (piece ≡ []) × (i.taken < 2 ^ 40) × (bytes ≡ have) × (0 < have) × IsDry shown
AsTaken i j have piece shown (Some ReadFault) = (piece ≡ []) × (i.taken < 2 ^ 40)
AsTaken i j have piece shown (Some (InputLimit taken)) = (piece ≡ []) × (taken ≡ i.taken) × (taken ≡ 2 ^ 40)
AsTaken i j have piece shown (Some WantMemory) = Unit {0}
AsTaken i j have piece shown (Some end) = ⊥

-- behind the piece it is known of which version a client's first message is, unless what is owed isn't paid then
abbrev pub KnowsTaken : Intake → Intake → List ℕ → Option SessionEnd → Type 0
KnowsTaken i j piece None = (peer : Peer) (text : List ℕ) → KnowsFirst peer i.ear text → KnowsFirst peer j.ear (text ++ piece)
KnowsTaken i j piece (Some end) =
    is_settling end ≡ true → (peer : Peer) (text : List ℕ) → KnowsFirst peer i.ear text → KnowsFirst peer j.ear (text ++ piece)

pub record Takes (i j : Intake) (have : ℕ) (a b : Shown) (result : Option SessionEnd) : Type 0 where
  pub piece : List ℕ
  pub first : KnowsTaken i j piece result
  pub moved : Moves a b piece []
  pub few : i.taken ≤ 2 ^ 40 → i.taken + length piece ≤ 2 ^ 40
  pub taken : AsTaken i j have piece b result
