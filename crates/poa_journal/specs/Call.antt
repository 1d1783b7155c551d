-- Calls in a journal: a request, a locate, or an administrator's line.
use Rattle.std.specs.Prelude.{◌≡◌, ℕ, ◌^◌, Bool, true, false, List, [], ◌∷◌, codes, Option, Some, None, Result, Ok, Err, if◌then◌else◌}
use Rattle.std.specs.Str.{bytes_eq}
use Rattle.poa_base.specs.declared.Call.{Call}
use Rattle.poa_base.specs.declared.Call.TheVariants.{Request, Locate, Line}
use Rattle.poa_base.specs.declared.Command.{Command}
use Rattle.poa_base.specs.declared.Body.{Body}
use Rattle.text_words.specs.Chain.{◌>>=◌}
use Rattle.text_words.specs.Keyword.{named_in}
use Rattle.text_words.specs.Hexadecimal.{prefixed_of}
use Rattle.text_words.specs.Number.{number_of}
use Rattle.text_words.specs.Token.{Token, keyword, number, octets}
use Rattle.admin_line.specs.Command.{command_tokens}
use Rattle.admin_line.specs.Reading.{command_of}
use Rattle.admin_line.specs.declared.Source.TheVariants.{Journal}
use Rattle.poa_journal.specs.declared.value_words.CallKind.{CallKind}
use Rattle.poa_journal.specs.declared.value_words.CallKind.TheVariants as call
use Rattle.poa_journal.specs.declared.value_words.ByteOrder.{ByteOrder}
use Rattle.poa_journal.specs.declared.value_words.Mark.TheVariants as mark
use Rattle.poa_journal.specs.ValueWords.{call_word, calls, order_word, orders, order_for, is_little, mark_word}

-- the target of a message, `-` where it gives no key
abbrev pub target_token : Option (List ℕ) → Token
target_token None = keyword (mark_word mark.Nothing)
target_token (Some key) = octets (codes "h:") key

abbrev pub call_tokens : Call → List Token
call_tokens (Request head target operation body) =
    keyword (call_word call.Request) ∷ number (2 ^ 32) head.id ∷ number 256 head.minor ∷ keyword (order_word (order_for head.little))
    ∷ number 256 head.flags ∷ target_token target ∷ octets (codes "h:") operation ∷ number (2 ^ 64) body.base ∷ octets
    (codes "h:") body.bytes ∷ []
call_tokens (Locate head target) =
    keyword (call_word call.Locate) ∷ number (2 ^ 32) head.id ∷ number 256 head.minor ∷ keyword
    (order_word (order_for head.little)) ∷ target_token target ∷ []
call_tokens (Line line command) = keyword (call_word call.Line) ∷ number (2 ^ 64) line ∷ command_tokens command

-- a call whose text tells all of it
abbrev pub IsTold : Call → Type 0
IsTold (Request head target operation body) = (head.locate ≡ false) × (body.little ≡ head.little)
IsTold (Locate head target) = (head.locate ≡ true) × (head.flags ≡ 0)
IsTold (Line line command) = Unit {0}

abbrev pub order_of : List ℕ → Option ByteOrder
order_of w = named_in order_word orders w

abbrev pub given : Option (List ℕ) → Option (Option (List ℕ))
given None = None
given (Some key) = Some (Some key)

abbrev pub target_of : List ℕ → Option (Option (List ℕ))
target_of w = if bytes_eq (mark_word mark.Nothing) w then Some None else given (prefixed_of (codes "h:") w)

-- the id, the minor version and the byte order of a message
abbrev pub start_of : List ℕ → List ℕ → List ℕ → Option (ℕ × ℕ × Bool)
start_of i m o = do
  id ← number_of (2 ^ 32) i
  minor ← number_of 256 m
  order ← order_of o
  Some (id, minor, is_little order)

abbrev pub body_of : Bool → List ℕ → List ℕ → Option Body
body_of little b d = do
  base ← number_of (2 ^ 64) b
  bytes ← prefixed_of (codes "h:") d
  Some (record { bytes = bytes; little = little; base = base })

-- the target, the operation and its arguments
abbrev pub arguments_of : Bool → List (List ℕ) → Option (Option (List ℕ) × List ℕ × Body)
arguments_of little (t ∷ p ∷ b ∷ d ∷ []) = do
  target ← target_of t
  operation ← prefixed_of (codes "h:") p
  body ← body_of little b d
  Some (target, operation, body)
arguments_of little ws = None

abbrev pub request_of : List (List ℕ) → Option Call
request_of (i ∷ m ∷ o ∷ f ∷ ws) = do
  start ← start_of i m o
  flags ← number_of 256 f
  rest ← arguments_of start.2 ws
  Some (Request (record { id = start.0; minor = start.1; little = start.2; flags = flags; locate = false }) rest.0 rest.1 rest.2)
request_of ws = None

abbrev pub locate_of : List (List ℕ) → Option Call
locate_of (i ∷ m ∷ o ∷ t ∷ []) = do
  start ← start_of i m o
  target ← target_of t
  Some (Locate (record { id = start.0; minor = start.1; little = start.2; flags = 0; locate = true }) target)
locate_of ws = None

abbrev pub accepted : Result Command ℕ → Option Command
accepted (Ok command) = Some command
accepted (Err k) = None

abbrev pub line_of : List (List ℕ) → Option Call
line_of [] = None
line_of (n ∷ ws) = do
  line ← number_of (2 ^ 64) n
  command ← accepted (command_of Journal ws)
  Some (Line line command)

abbrev pub call_behind : CallKind → List (List ℕ) → Option Call
call_behind call.Request ws = request_of ws
call_behind call.Locate ws = locate_of ws
call_behind call.Line ws = line_of ws

abbrev pub call_kind_of : List ℕ → Option CallKind
call_kind_of w = named_in call_word calls w

abbrev pub call_of : List (List ℕ) → Option Call
call_of [] = None
call_of (w ∷ ws) = do
  k ← call_kind_of w
  call_behind k ws
