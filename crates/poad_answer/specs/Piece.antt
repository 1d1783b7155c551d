-- How a client's calls are served as its bytes come, whoever answers: the words of the contracts inside of this crate.
use Rattle.std.specs.Prelude.{◌≡◌, ◌≢◌, ℕ, ◌+◌, ◌<◌, List, [], ◌++◌, Option, Some, None, length, ⊤}
use Rattle.poa_base.specs.declared.Call.{Call}
use Rattle.poa_core.specs.declared.ArriveFault.{ArriveFault}
use Rattle.poa_core.specs.declared.ArriveFault.TheVariants.{Limit, WantMemory}
use Rattle.session_laws.specs.declared.peer.Peer.TheVariants.{Client}
use Rattle.session_laws.specs.Hearing.{Heard}
use Rattle.session_laws.specs.Expecting.{Expects}
use Rattle.session_laws.specs.HearingPieces.{Intake, KnowsFirst, OfIntake, unread_of}
use Rattle.poad_answer.specs.declared.stop.Stop.{Stop}
use Rattle.poad_answer.specs.declared.stop.Stop.TheVariants.{Waits, Closed, Full, NoMemory}
use Rattle.poad_answer.specs.Meaning.{GivesBehind, Meaning}
use Rattle.poad_answer.specs.Calls.{Serves}
use Rattle.poad_answer.specs.Stop.{StopsAt}

-- who answers, what came of the client, and the replies that aren't written yet
pub record Server (A : Type 0) : Type 0 where
  pub answerer : A
  pub input : Intake
  pub replies : List ℕ

abbrev pub server : {A : Type 0} → A → Intake → List ℕ → Server A
server answerer input replies = record { answerer = answerer; input = input; replies = replies }

-- what came is a client's
abbrev pub IsOfClient : Intake → Type 0
IsOfClient input = (text : List ℕ) × KnowsFirst Client input.ear text

-- so many calls more are heard behind those before them
abbrev pub HearsMore : Intake → List Heard → Intake → Type 0
HearsMore old calls new =
    (text : List ℕ) (before : List Heard) → Expects Client (OfIntake old) text before → Expects Client (OfIntake new) text (before ++ calls)

-- the same, once a piece more came
abbrev pub HearsPiece : List ℕ → Intake → List Heard → Intake → Type 0
HearsPiece piece old calls new =
    (text : List ℕ) (before : List Heard) → Expects Client (OfIntake old) text before → Expects Client (OfIntake new) (text ++ piece) (before ++ calls)

-- what is known of the client's first message still is
abbrev pub StillKnows : Intake → Intake → Type 0
StillKnows old new = (text : List ℕ) → KnowsFirst Client old.ear text → KnowsFirst Client new.ear text

-- where no whole message is left, serving goes on with this answerer; at a CloseConnection it has it still
abbrev pub Keeps : {A : Type 0} → Stop → List Heard → A → Server A → Server A → Type 0
Keeps (Waits have) calls last old new = (new.answerer ≡ last) × HearsMore old.input calls new.input
Keeps Closed calls last old new = new.answerer ≡ last
Keeps _ calls last old new = ⊤

-- calls were served up to this stop, and their replies wait behind those that waited
pub record ServesUpTo {A : Type 0} (m : Meaning A) (why : Stop) (old new : Server A) : Type 0 where
  pub calls : List Heard
  pub replies : List ℕ
  pub last : A
  pub served : Serves m.gives old.answerer calls replies last
  pub fits : m.fits last
  pub waiting : new.replies ≡ old.replies ++ replies
  pub taken : new.input.taken ≡ old.input.taken
  pub stops : (text : List ℕ) (before : List Heard) → Expects Client (OfIntake old.input) text before → StopsAt (m.refuses last) why text (before ++ calls)
  pub kept : Keeps why calls last old new
  pub first : StillKnows old.input new.input

-- this was heard and served, and its reply waits behind those that waited: a call, or what asks nothing
pub record ServesOne {A : Type 0} (m : Meaning A) (old new : Server A) : Type 0 where
  pub calls : List Heard
  pub reply : List ℕ
  pub served : Serves m.gives old.answerer calls reply new.answerer
  pub waiting : new.replies ≡ old.replies ++ reply
  pub taken : new.input.taken ≡ old.input.taken
  pub heard : HearsMore old.input calls new.input
  pub fewer : unread_of new.input.ear < unread_of old.input.ear
  pub first : StillKnows old.input new.input

-- serving stops at what stands next
pub record StopsHere {A : Type 0} (m : Meaning A) (why : Stop) (old new : Server A) : Type 0 where
  pub waiting : new.replies ≡ old.replies
  pub taken : new.input.taken ≡ old.input.taken
  pub stops : (text : List ℕ) (before : List Heard) → Expects Client (OfIntake old.input) text before → StopsAt (m.refuses old.answerer) why text before
  pub kept : Keeps why [] old.answerer old new
  pub first : StillKnows old.input new.input

-- a turn serves what stands next, or stops before it
abbrev pub Turns : {A : Type 0} → Meaning A → Option Stop → Server A → Server A → Type 0
Turns m None old new = ServesOne m old new
Turns m (Some why) old new = StopsHere m why old new

-- a call of this size was served, or stops serving
abbrev pub Does : {A : Type 0} → Meaning A → Option Stop → Call → ℕ → A → A → List ℕ → List ℕ → Type 0
Does m None call size old new before after = GivesBehind (m.gives old call size) new before after
Does m (Some (Full calls bytes)) call size old new before after = m.refuses old call size calls bytes × (after ≡ before)
Does m (Some NoMemory) call size old new before after = after ≡ before
Does m (Some _) call size old new before after = ⊥

-- the stop that the fault of an answer makes
abbrev pub IsStopBy : ArriveFault → Stop → Type 0
IsStopBy (Limit calls bytes) why = why ≡ Full calls bytes
IsStopBy WantMemory why = why ≡ NoMemory

-- where serving goes on, no whole message is left, and this answerer goes on
abbrev pub KeepsPiece : {A : Type 0} → Stop → List ℕ → List Heard → A → Server A → Server A → Type 0
KeepsPiece (Waits have) piece calls last old new =
    (new.answerer ≡ last) × HearsPiece piece old.input calls new.input × (new.input.taken ≡ old.input.taken + length piece)
KeepsPiece Closed piece calls last old new = new.answerer ≡ last
KeepsPiece _ piece calls last old new = ⊤

-- the calls that the piece makes whole were served up to this stop, and their replies wait behind those that waited
pub record TakesPiece {A : Type 0} (m : Meaning A) (why : Stop) (piece : List ℕ) (old new : Server A) : Type 0 where
  pub calls : List Heard
  pub replies : List ℕ
  pub last : A
  pub served : Serves m.gives old.answerer calls replies last
  pub fits : m.fits last
  pub waiting : new.replies ≡ old.replies ++ replies
  pub stops : (text : List ℕ) (before : List Heard) → Expects Client (OfIntake old.input) text before
      → StopsAt (m.refuses last) why (text ++ piece) (before ++ calls)
  pub kept : KeepsPiece why piece calls last old new
  pub first : why ≢ NoMemory → (text : List ℕ) → KnowsFirst Client old.input.ear text → KnowsFirst Client new.input.ear (text ++ piece)
