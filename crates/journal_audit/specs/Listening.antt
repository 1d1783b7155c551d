-- How the calls that arrive, and the replies that are given, are compared with what was read and written. These words are for
-- contracts inside of this crate.
use Rattle.std.specs.Prelude.{◌≡◌, ◌↔◌, ℕ, ◌==◌, Bool, true, false, IsTrue, List, [], ◌∷◌, ◌++◌}
use Rattle.poa_base.specs.declared.Call.{Call}
use Rattle.poa_base.specs.declared.SessionEnd.TheVariants.{Ended}
use Rattle.session_laws.specs.Calls.{IsSaid}
use Rattle.session_laws.specs.Hearing.{AreSaid, Heard, Stop, bad, closed, over}
use Rattle.session_laws.specs.HearingPieces.{OfEar}
use Rattle.session_laws.specs.Sessions.{Hears, Input}
use Rattle.session_laws.specs.declared.ear.Ear.{Ear}
use Rattle.session_laws.specs.declared.peer.Peer.{Peer}
use Rattle.session_laws.specs.declared.told.Told.{Told}
use Rattle.session_laws.specs.declared.told.Told.TheVariants as told

-- who listens: the ear, what it wasn't fed yet, and whether the calls that arrived are those that were heard
pub record Listening : Type 0 where
  pub ear : Ear
  pub rest : List ℕ
  pub fits : Bool

-- what is still heard: the calls, and where the input stops
abbrev pub Behind : Type 1
Behind = List Heard → Stop → Type 0

abbrev pub HearsRest : Listening → Behind
HearsRest l more stop = OfEar l.ear l.rest more stop

-- what is heard next, where P is what is still heard, and Q what is heard behind it
abbrev pub Says : Told → Behind → Behind → Type 0
Says (told.Call call size) P Q =
    ((more : List Heard) (stop : Stop) → Q more stop → P (record { call = call; size = size } ∷ more) stop) × IsSaid call
Says told.Nothing P Q = ⊥
Says (told.More have) P Q = P [] (over have)
Says told.Closed P Q = P [] closed
Says (told.Bad at) P Q = P [] (bad at)

-- nothing more is heard, and nothing is left over
abbrev pub ends_well : Told → Bool
ends_well told.Closed = true
ends_well (told.More have) = have == 0
ends_well t = false

-- the calls of the input begin with these, and P is what is heard behind them
pub record Begins (peer : Peer) (input : List ℕ) (calls : List Heard) (P : Behind) : Type 0 where
  pub said : AreSaid calls
  pub heard : (more : List Heard) (stop : Stop) → P more stop → Hears peer input (calls ++ more) stop

-- they don't
abbrev pub NeverBegins : Peer → List ℕ → List Heard → Type 0
NeverBegins peer input calls = (more : List Heard) (stop : Stop) → Hears peer input (calls ++ more) stop → ⊥

-- whether they do
abbrev pub MayBegin : Peer → List ℕ → List Heard → Behind → Bool → Type 0
MayBegin peer input calls P true = Begins peer input calls P
MayBegin peer input calls P false = NeverBegins peer input calls

-- these calls arrived so far of a peer that sent this
abbrev pub Listens : Peer → List ℕ → List Heard → Listening → Type 0
Listens peer input calls l = MayBegin peer input calls (HearsRest l) l.fits

-- whoever sent whatever, and whichever calls arrived so far: one more arrives
abbrev pub HearsCall : Call → ℕ → Listening → Listening → Type 0
HearsCall call size old new = (peer : Peer) (input : List ℕ) (calls : List Heard) → Listens peer input calls old
    → Listens peer input (calls ++ record { call = call; size = size } ∷ []) new

-- whether these calls are all, and the input ends well
abbrev pub IsOver : Bool → Listening → Type 0
IsOver holds l = (peer : Peer) (input : List ℕ) (calls : List Heard) → Listens peer input calls l → IsTrue holds ↔ Input peer input calls Ended

-- what is heard later was to be heard before
abbrev pub HearsLater : Listening → Listening → Type 0
HearsLater old new = (more : List Heard) (stop : Stop) → HearsRest new more stop → HearsRest old more stop

-- what was written: what stands behind the replies so far, if these stand in front of it
pub record Writing : Type 0 where
  pub rest : List ℕ
  pub fits : Bool

abbrev pub MayWrite : List ℕ → List ℕ → List ℕ → Bool → Type 0
MayWrite output replies rest true = output ≡ replies ++ rest
MayWrite output replies rest false = (more : List ℕ) → output ≡ replies ++ more → ⊥

-- these bytes were written, and these replies given so far
abbrev pub Writes : List ℕ → List ℕ → Writing → Type 0
Writes output replies w = MayWrite output replies w.rest w.fits

-- whatever was written, and whichever replies were given so far: these bytes tell one more
abbrev pub WritesMore : List ℕ → Writing → Writing → Type 0
WritesMore bytes old new = (output replies : List ℕ) → Writes output replies old → Writes output (replies ++ bytes) new

-- whether these replies are all that was written
abbrev pub IsWhole : Bool → Writing → Type 0
IsWhole holds w = (output replies : List ℕ) → Writes output replies w → IsTrue holds ↔ (output ≡ replies)
