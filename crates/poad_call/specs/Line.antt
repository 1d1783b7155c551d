-- The line that is printed of how a call ended, or the status where none is.
use Rattle.std.specs.Prelude.{◌≡◌, ℕ, ◌^◌, List, [], ◌∷◌, ◌++◌, Option, codes, ◌⊎◌, ⊤}
use Rattle.poa_base.specs.declared.Body.{Body}
use Rattle.poa_base.specs.declared.Datum.{Datum}
use Rattle.text_words.specs.Token.{minor, number, tails}
use Rattle.command_words.specs.declared.result_kind.ResultKind.{ResultKind}
use Rattle.giop_client.specs.declared.call_end.CallEnd.{CallEnd}
use Rattle.giop_client.specs.declared.call_end.CallEnd.TheVariants as end
use Rattle.poad_files.specs.Printed.{printed}
use Rattle.poad_files.specs.declared.status.Status.{Status}
use Rattle.poad_files.specs.declared.status.Status.TheVariants as status
use Rattle.poad_call.specs.Result.{IsResult, result_text}

-- LF, 10, ends the line
abbrev pub user_line : List ℕ → List ℕ
user_line id = codes "user " ++ printed id ++ 10 ∷ []

-- the id, the minor code in eight hexadecimal digits, and the completion's number
abbrev pub system_line : List ℕ → ℕ → ℕ → List ℕ
system_line id code done = codes "system " ++ printed id ++ tails (minor code ∷ number (2 ^ 64) done ∷ []) ++ 10 ∷ []

-- the body is a result of the kind, which the line prints
pub record PrintsResult (kind : ResultKind) (body : Body) (line : List ℕ) : Type 0 where
  pub value : Option Datum
  pub is_result : IsResult kind body value
  pub is_line : line ≡ result_text value ++ 10 ∷ []

-- the line of an answer: a result, a user exception or a system exception
abbrev pub IsLine : ResultKind → CallEnd → List ℕ → Type 0
IsLine kind (end.Result body) line = PrintsResult kind body line
IsLine kind (end.User id) line = line ≡ user_line id
IsLine kind (end.System id code done) line = line ≡ system_line id code done
IsLine kind other line = ⊥

-- the body isn't a result of the kind, or memory was wanting
abbrev pub FailsToRead : ResultKind → Body → Status → Type 0
FailsToRead kind body status.BadReply = (value : Option Datum) → IsResult kind body value → ⊥
FailsToRead kind body status.WantMemory = ⊤
FailsToRead kind body other = ⊥

-- a result that can't be read as of the kind
abbrev pub IsUnreadable : ResultKind → CallEnd → Type 0
IsUnreadable kind (end.Result body) = FailsToRead kind body status.BadReply
IsUnreadable kind other = ⊥

-- memory may be wanting where an answer is to be printed
abbrev pub MayLackMemory : CallEnd → Type 0
MayLackMemory (end.Result body) = ⊤
MayLackMemory (end.User id) = ⊤
MayLackMemory (end.System id code done) = ⊤
MayLackMemory end.WantMemory = ⊤
MayLackMemory other = ⊥

-- the end of a call with this status prints nothing: each status exactly by its end
abbrev pub HasNoLine : ResultKind → CallEnd → Status → Type 0
HasNoLine kind ended status.NoProfile = ended ≡ end.NoProfile
HasNoLine kind ended (status.TooManyHops hops) = ended ≡ end.TooManyHops hops
HasNoLine kind ended status.ConnectFault = ended ≡ end.ConnectFault
HasNoLine kind ended status.ReadFault = ended ≡ end.ReadFault
HasNoLine kind ended status.WriteFault = ended ≡ end.WriteFault
HasNoLine kind ended status.Closed = ended ≡ end.Closed
HasNoLine kind ended status.BadReply = (ended ≡ end.BadReply) ⊎ IsUnreadable kind ended
HasNoLine kind ended (status.NoAnswer quiets) = ended ≡ end.NoAnswer quiets
HasNoLine kind ended status.WantMemory = MayLackMemory ended
HasNoLine kind ended other = ⊥
