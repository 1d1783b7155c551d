-- What calls give, one behind the other, by the changes that the calls before them made.
use Rattle.std.specs.Prelude.{◌≡◌, ℕ, ◌≤◌, List, [], ◌++◌, ◌⊎◌, Option, Some, None, IsTrue, IsFalse, if◌then◌else◌}
use Rattle.poa_base.specs.declared.Body.{Body}
use Rattle.poa_base.specs.declared.Call.{Call}
use Rattle.poa_base.specs.declared.Call.TheVariants.{Request, Locate, Line}
use Rattle.poa_base.specs.declared.Head.{Head}
use Rattle.poa_base.specs.declared.Reply.{Reply}
use Rattle.poa_base.specs.declared.Reply.TheVariants as reply
use Rattle.giop_answer.specs.declared.kind.TheConstants.{MINOR}
use Rattle.giop_answer.specs.Reply.{AnswersHead, reply_bytes}
use Rattle.naming_context.specs.declared.answer.Answer.{Answer}
use Rattle.naming_context.specs.declared.answer.Answer.TheVariants as answer
use Rattle.naming_context.specs.declared.asked.Asked.{Asked}
use Rattle.naming_context.specs.declared.operation.Operation.{Operation}
use Rattle.naming_context.specs.declared.reached.Reached.{Reached}
use Rattle.naming_context.specs.declared.reached.Reached.TheVariants.{Context, NoContext, NoKey}
use Rattle.naming_context.specs.Asking.{ReadsAsked, body_start}
use Rattle.naming_context.specs.Keys.{Reaches}
use Rattle.naming_context.specs.Operations.{operation_of}
use Rattle.naming_context.specs.Outcomes.{bad_arguments, no_context, no_key, unknown_operation}
use Rattle.naming_context.specs.Replies.{answer_bytes, asks_reply}
use Rattle.naming_context.specs.Standing.{Change, Standing}
use Rattle.naming_context.specs.Table.{Done, IsDone, answering, done, left}

-- an operation with the arguments of the body is done, or they can't be read
abbrev pub DoesOr : Operation → Standing → ℕ → Body → Done → Type 0
DoesOr operation s n body what =
    ((asked : Asked) × (ReadsAsked operation (body_start body) asked × (what ≡ done s n asked)))
    ⊎ (((asked : Asked) → ReadsAsked operation (body_start body) asked → ⊥) × (what ≡ answering (answer.Outcome bad_arguments)))

-- a context does what this word asks, where it is an operation
abbrev pub DoesWord : Option Operation → Standing → ℕ → Body → Done → Type 0
DoesWord None s n body what = what ≡ answering (answer.Outcome unknown_operation)
DoesWord (Some operation) s n body what = DoesOr operation s n body what

-- what a key leads to does so
abbrev pub DoesAt : Reached → Standing → List ℕ → Body → Done → Type 0
DoesAt NoKey s word body what = what ≡ answering (answer.Outcome no_key)
DoesAt NoContext s word body what = what ≡ answering (answer.Outcome no_context)
DoesAt (Context n) s word body what = DoesWord (operation_of word) s n body what

-- what a request gives does so
pub record DoesBy (s : Standing) (key word : List ℕ) (body : Body) (what : Done) : Type 0 where
  pub reached : Reached
  pub reaches : Reaches s.made key reached
  pub does : DoesAt reached s word body what

abbrev pub Does : Standing → Option (List ℕ) → List ℕ → Body → Done → Type 0
Does s None word body what = what ≡ answering answer.Addressing
Does s (Some key) word body what = DoesBy s key word body what

-- where what a key leads to is
abbrev pub place_of : Reached → Reply
place_of (Context n) = reply.Here
place_of other = reply.UnknownObject

-- the reply to a locate
pub record LocatesBy (s : Standing) (key : List ℕ) (told : Reply) : Type 0 where
  pub reached : Reached
  pub reaches : Reaches s.made key reached
  pub is : told ≡ place_of reached

abbrev pub Locates : Standing → Option (List ℕ) → Reply → Type 0
Locates s None told = told ≡ reply.Addressing
Locates s (Some key) told = LocatesBy s key told

-- a call gives these bytes, and changes this
abbrev pub CallGives : Standing → Call → List ℕ → Option Change → Type 0
CallGives s (Request head target word body) bytes change =
    (what : Done) × (Does s target word body what × (change ≡ what.change)
    × (bytes ≡ (if asks_reply head then answer_bytes head what.answer else [])))
CallGives s (Locate head target) bytes change =
    (told : Reply) × (Locates s target told × (change ≡ None) × (bytes ≡ reply_bytes head told))
CallGives s (Line number command) bytes change = ⊥

-- a request was done so
pub record IsDoneBy (target : Option (List ℕ)) (word : List ℕ) (body : Body) (old : Standing) (told : Answer) (new : Standing) : Type 0 where
  pub what : Done
  pub does : Does old target word body what
  pub is_done : IsDone what old told new

-- a call was served so: its bytes stand behind what stood there
pub record ServesCall (call : Call) (old new : Standing) (before after : List ℕ) : Type 0 where
  pub bytes : List ℕ
  pub change : Option Change
  pub gives : CallGives old call bytes change
  pub stands : new ≡ left change old
  pub waits : after ≡ before ++ bytes

-- what a key leads to did so, and an operation
pub record IsDoneAt (reached : Reached) (word : List ℕ) (body : Body) (old : Standing) (told : Answer) (new : Standing) : Type 0 where
  pub what : Done
  pub does : DoesAt reached old word body what
  pub is_done : IsDone what old told new

pub record Operates (operation : Operation) (n : ℕ) (body : Body) (old : Standing) (told : Answer) (new : Standing) : Type 0 where
  pub what : Done
  pub does : DoesOr operation old n body what
  pub is_done : IsDone what old told new

-- a call of a message: its head has a minor version that a reply can have, and says whether it is a locate
abbrev pub IsHeaded : Call → Type 0
IsHeaded (Request head target word body) = (head.minor ≤ MINOR) × IsFalse head.locate
IsHeaded (Locate head target) = (head.minor ≤ MINOR) × IsTrue head.locate
IsHeaded (Line number command) = ⊥

-- a reply that answers a locate
abbrev pub IsPlace : Reply → Type 0
IsPlace told = (head : Head) → IsTrue head.locate → AnswersHead head told
