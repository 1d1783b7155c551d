-- What each of the workers below 16 has begun, and which of them gave up.
use Rattle.std.specs.Prelude.{◌≡◌, ℕ, ◌<◌, Bool, true, false, List, ◌∷◌, length, Option, Some, None, slice_index_or}
use Rattle.poa_base.specs.declared.Config.{Config}
use Rattle.poa_base.specs.declared.Entry.{Entry}
use Rattle.poa_base.specs.declared.Entry.TheVariants.{Admit, Tried, Incarnated, Run, Done, TakeOut, Etherealized}
use Rattle.history_standing.specs.declared.stage.Stage.{Stage}
use Rattle.history_standing.specs.declared.stage.Stage.TheVariants.{Free, Ran, Removing}
use Rattle.history_standing.specs.Stages.{stage, is_abandoned}
use Rattle.poa_history.specs.Legal.{MayFollow}
use Rattle.core_arrivals.specs.declared.workers.Workers.{Workers}

-- the worker that makes the entry
abbrev pub worker_of : Entry → Option ℕ
worker_of (Admit w r verdict) = Some w
worker_of (Tried w answer) = Some w
worker_of (Incarnated w answer) = Some w
worker_of (Run w) = Some w
worker_of (Done w) = Some w
worker_of (TakeOut w n etherealize) = Some w
worker_of (Etherealized w cleanup remaining) = Some w
worker_of e = None

pub record StagesAgree (h : List Entry) (stages : List Stage) : Type 0 where
  pub each : length stages ≡ 16
  pub are : (w : ℕ) → w < 16 → slice_index_or stages w Free ≡ stage h w

pub record FlagsAgree (h : List Entry) (flags : List Bool) : Type 0 where
  pub each : length flags ≡ 16
  pub are : (w : ℕ) → w < 16 → slice_index_or flags w false ≡ is_abandoned h w

pub record WorkersAgree (h : List Entry) (workers : Workers) : Type 0 where
  pub begun : StagesAgree h workers.stages.items
  pub stopped : FlagsAgree h workers.abandoned.items

-- what was begun is only to be ended
abbrev pub only_ends : Stage → Bool
only_ends (Ran r) = true
only_ends (Removing n) = true
only_ends stage = false

-- what holds of each history that the tables of the workers agree with, which are asked of one below 16
abbrev pub WorkersTell : ℕ → Workers → (List Entry → Type 0) → Type 0
WorkersTell w workers says = (h : List Entry) → w < 16 → WorkersAgree h workers → says h

-- the same of each history that the entry may follow
abbrev pub WorkersTellBefore : Entry → Workers → (List Entry → Type 0) → Type 0
WorkersTellBefore e workers says = (c : Config) (run limit : ℕ) (past : List Entry) → MayFollow c run limit past e → WorkersAgree past workers → says past

-- the tables took the entry in: they agree with the history that has it on top
abbrev pub StagesFollow : Entry → List Stage → List Stage → Type 0
StagesFollow e old new = (past : List Entry) → StagesAgree past old → StagesAgree (e ∷ past) new

abbrev pub FlagsFollow : Entry → List Bool → List Bool → Type 0
FlagsFollow e old new = (past : List Entry) → FlagsAgree past old → FlagsAgree (e ∷ past) new

abbrev pub WorkersFollow : Entry → Workers → Workers → Type 0
WorkersFollow e old new = (past : List Entry) → WorkersAgree past old → WorkersAgree (e ∷ past) new
