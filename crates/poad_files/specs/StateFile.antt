-- What a run of the server reads of its state file.
use Rattle.std.specs.Prelude.{◌≡◌, ◌⊎◌, ℕ, List, Option, Result, Ok, Err, ⊤}
use Rattle.std.specs.FinMap.{empty}
use Rattle.outside.specs.Keeping.{Contents}
use Rattle.poa_base.specs.Store.{Slots, states}
use Rattle.poa_journal.specs.Whole.{rows_of}
use Rattle.poad_files.specs.Taking.{OfContent, Refused}
use Rattle.poad_files.specs.declared.status.Status.{Status}
use Rattle.poad_files.specs.declared.status.Status.TheVariants.{StateRefused, WantMemory, NoFile}

-- a state file has at most so many bytes
abbrev pub state_limit : ℕ
state_limit = 268435456

-- the store of a text
abbrev pub ReadsState : List ℕ → Result Slots Status → Type 0
ReadsState content (Ok slots) = rows_of content ≡ Ok (states slots)
ReadsState content (Err (StateRefused line)) = rows_of content ≡ Err line
ReadsState content (Err WantMemory) = ⊤
ReadsState content (Err status) = ⊥

-- no such file is there, and the store is empty
abbrev pub IsAbsent : List ℕ → Slots → Option Contents → Option Contents → Type 0
IsAbsent name slots old new = (slots ≡ empty) × Refused name state_limit NoFile old new

-- the same of a file's content; or no such file is there; or it isn't taken
abbrev pub TakesState : List ℕ → Result Slots Status → Option Contents → Option Contents → Type 0
TakesState name (Ok slots) old new =
    OfContent name state_limit (λ content. ReadsState content (Ok slots)) old new ⊎ IsAbsent name slots old new
TakesState name (Err (StateRefused line)) old new =
    OfContent name state_limit (λ content. ReadsState content (Err (StateRefused line))) old new
TakesState name (Err NoFile) old new = ⊥
TakesState name (Err status) old new = Refused name state_limit status old new
