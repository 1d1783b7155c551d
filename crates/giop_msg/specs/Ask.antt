-- A Request that is written, and the call that it makes.
use Rattle.std.specs.Prelude.{◌≡◌, ◌⊎◌, ℕ, zero, suc, ◌+◌, ◌^◌, ◌<◌, ◌≤◌, Bool, false, ◌==◌, if◌then◌else◌, List, [], ◌∷◌, ◌++◌, Option, Some, None, length, replicate}
use Rattle.cdr_core.specs.Field.{Field, ulong, octets}
use Rattle.cdr_core.specs.Spelling.{gap, written}
use Rattle.cdr_core.specs.Draft.{Draft}
use Rattle.poa_base.specs.declared.Ask.{Ask}
use Rattle.poa_base.specs.declared.Body.{Body}
use Rattle.poa_base.specs.declared.Call.{Call}
use Rattle.poa_base.specs.declared.Call.TheVariants.{Request}
use Rattle.poa_base.specs.declared.Datum.{Datum}
use Rattle.giop_answer.specs.declared.kind.TheConstants.{MINOR, REQUEST, HEADER}
use Rattle.giop_answer.specs.Outgoing.{framed, fields_draft}
use Rattle.giop_answer.specs.Reply.{datum_field}
use Rattle.giop_msg.specs.declared.opening.TheConstants.{REPLY_ASKED}
use Rattle.giop_msg.specs.Version.{is_newest}
use Rattle.giop_msg.specs.Contexts.{counted_contexts}
use Rattle.giop_msg.specs.Opening.{opening_fields, asked_fields, reserved_fields}
use Rattle.giop_msg.specs.Target.{key_fields}
use Rattle.giop_msg.specs.Request.{body_unit, closing_fields, principal_fields}

-- the octet that stands for response flags before version 1.2
abbrev pub asked_by_flags : ℕ → ℕ
asked_by_flags flags = if flags == 0 then 0 else 1

-- the octets that are reserved behind it, which are 0
abbrev pub no_reserved : ℕ → List Field
no_reserved zero = []
no_reserved (suc minor) = reserved_fields 0 0 0

-- the fields in front of the body: what is reserved is 0, the target is told by its key, and contexts and principal are empty
abbrev pub newest_fields : Ask → List Field
newest_fields ask = opening_fields ask.head.id ask.head.flags 0 0 0 ++ key_fields ask.key ++ closing_fields ask.operation []

abbrev pub earlier_fields : Ask → List Field
earlier_fields ask =
    counted_contexts [] ++ asked_fields ask.head.id (asked_by_flags ask.head.flags) ++ no_reserved ask.head.minor
    ++ octets ask.key ∷ principal_fields ask.operation []

abbrev pub ask_fields : Ask → List Field
ask_fields ask = if is_newest ask.head.minor then newest_fields ask else earlier_fields ask

abbrev pub request_draft : Ask → Draft
request_draft ask = fields_draft ask.head.little (ask_fields ask)

-- the place behind these fields
abbrev pub request_end : Ask → ℕ
request_end ask = HEADER + length (request_draft ask).bytes

-- the body behind this place: none without an argument, else padding up to a multiple of its unit and the argument
abbrev pub argument_bytes : ℕ → Bool → ℕ → Option Datum → List ℕ
argument_bytes unit little place None = []
argument_bytes unit little place (Some datum) =
    replicate (gap unit place) 0 ++ written little (place + gap unit place) (datum_field datum)

-- the bytes of the Request
abbrev pub request_bytes : Ask → List ℕ
request_bytes ask =
    framed ask.head.minor REQUEST ask.head.little
    ((request_draft ask).bytes ++ argument_bytes (body_unit ask.head.minor) ask.head.little (request_end ask) ask.argument)

-- the body as it is read
abbrev pub asked_body : ℕ → Bool → ℕ → Option Datum → Body
asked_body unit little place None = record { bytes = []; little = little; base = place }
asked_body unit little place (Some datum) = record {
  bytes = written little (place + gap unit place) (datum_field datum);
  little = little;
  base = place + gap unit place;
}

-- the call that is asked
abbrev pub call_of : Ask → Call
call_of ask =
    Request ask.head (Some ask.key) ask.operation (asked_body (body_unit ask.head.minor) ask.head.little (request_end ask) ask.argument)

-- response flags that a version can carry: any in 1.2, and before it those of a reply that is asked or isn't
abbrev pub CarriesFlags : ℕ → ℕ → Type 0
CarriesFlags minor flags = (minor ≡ MINOR) ⊎ (flags ≡ 0) ⊎ (flags ≡ REPLY_ASKED)

-- its parts fit into the fields that carry them
pub record Fitting (ask : Ask) : Type 0 where
  pub id : ask.head.id < 2 ^ 32
  pub flags : ask.head.flags < 2 ^ 8
  pub key : length ask.key < 2 ^ 32
  pub operation : length ask.operation + 1 < 2 ^ 32

-- a request that its version can carry
pub record IsAsk (ask : Ask) : Type 0 where
  pub minor : ask.head.minor ≤ MINOR
  pub no_locate : ask.head.locate ≡ false
  pub carried : CarriesFlags ask.head.minor ask.head.flags
  pub fits : Fitting ask
