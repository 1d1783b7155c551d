-- How a source was served, whoever answers.
use Rattle.std.specs.Prelude.{◌≡◌, ℕ, ◌^◌, ◌<◌, List, [], ◌++◌, ◌⊎◌, Bool, true, false, Option, length, ⊤}
use Rattle.outside.specs.Told.{IfTold}
use Rattle.session_laws.specs.Hearing.{Heard}
use Rattle.poad_files.specs.Delivery.{Hands}
use Rattle.poad_answer.specs.declared.end.End.{End}
use Rattle.poad_answer.specs.declared.end.End.TheVariants.{Read, Malformed, Full, ReadFault, WriteFault, Truncated, InputLimit, WantMemory}
use Rattle.poad_answer.specs.declared.stop.Stop.{Stop}
use Rattle.poad_answer.specs.declared.stop.Stop.TheVariants as stop
use Rattle.poad_answer.specs.Meaning.{Meaning}
use Rattle.poad_answer.specs.Calls.{Serves}
use Rattle.poad_answer.specs.Stop.{ClosesIn, StopsAt, last_words}

-- nothing is left of the source
abbrev pub IsDrained : Option (List ℕ) → Type 0
IsDrained left = IfTold left left (λ old new. new ≡ [])

-- no message is bad, and so many bytes belong to none
abbrev pub IsWaiting : Stop → Type 0
IsWaiting why = (have : ℕ) × (why ≡ stop.Waits have)

-- fewer bytes were taken than are taken at most
abbrev pub IsBelowLimit : List ℕ → Type 0
IsBelowLimit got = length got < 2 ^ 32

-- the source was read to a CloseConnection, or to its end with nothing left over
abbrev pub IsRead : Stop → List ℕ → Option (List ℕ) → Type 0
IsRead why got left = (why ≡ stop.Closed) ⊎ ((why ≡ stop.Waits 0) × IsDrained left × IsBelowLimit got)

-- why it ends so: `got` was taken of the source, and serving it stopped for this reason. Where no message ends it, it is
-- the limit of the input exactly where that was taken
abbrev pub SourceEnds : End → Stop → List ℕ → Option (List ℕ) → Type 0
SourceEnds Read why got left = IsRead why got left
SourceEnds (Truncated have) why got left = (why ≡ stop.Waits have) × (0 < have) × IsDrained left × IsBelowLimit got
SourceEnds (Malformed at) why got left = why ≡ stop.Refused at
SourceEnds (Full calls bytes) why got left = why ≡ stop.Full calls bytes
SourceEnds (InputLimit taken) why got left = IsWaiting why × (taken ≡ length got) × (taken ≡ 2 ^ 32)
SourceEnds ReadFault why got left = IsWaiting why × IsBelowLimit got
SourceEnds WriteFault why got left = ⊤
SourceEnds WantMemory why got left = ⊤

-- all that was due was written: there was no fault of writing, and memory wasn't wanting
abbrev pub is_written : End → Bool
is_written WriteFault = false
is_written WantMemory = false
is_written _ = true

-- where the source was read whole, the answerer is as the last message left it
abbrev pub IsLeft : {A : Type 0} → End → A → A → Type 0
IsLeft Read last new = new ≡ last
IsLeft _ last new = ⊤

-- bytes were taken of the source, the messages of their stream served in order, up to one that isn't served, and the sink
-- gained their replies, and behind them MessageError where the next message is bad, or CloseConnection where its call is
-- refused, in the version of the first message
pub record ServesSource {A : Type 0} (m : Meaning A) (end : End) (old new : A) (left_old left_new held_old held_new : Option (List ℕ)) : Type 0 where
  pub got : List ℕ
  pub took : IfTold left_old left_new (λ before now. before ≡ got ++ now)
  pub calls : List Heard
  pub replies : List ℕ
  pub last : A
  pub served : Serves m.gives old calls replies last
  pub fits : m.fits last
  pub why : Stop
  pub stops : StopsAt (m.refuses last) why got calls
  pub minor : ℕ
  pub closes : ClosesIn why got minor
  pub gave : IfTold held_old held_new (Hands (is_written end) (replies ++ last_words minor why))
  pub ends : SourceEnds end why got left_new
  pub kept : IsLeft end last new
