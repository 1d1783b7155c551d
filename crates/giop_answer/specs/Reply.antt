-- The bytes of a reply: CORBA 3.3 Part 2, 9.4.3 and 9.4.6.
use Rattle.std.specs.Prelude.{ℕ, ◌==◌, Bool, if◌then◌else◌, List, [], ◌∷◌, Option, None, Some, IsTrue, IsFalse}
use Rattle.cdr_core.specs.Field.{Field, ushort, ulong, longlong, boolean, text, octets}
use Rattle.cdr_core.specs.Draft.{Draft}
use Rattle.poa_base.specs.declared.Head.{Head}
use Rattle.poa_base.specs.declared.Datum.{Datum}
use Rattle.poa_base.specs.declared.Datum.TheVariants.{Long, Ulong, Flag, Octets, Text}
use Rattle.poa_base.specs.declared.Outcome.{Outcome}
use Rattle.poa_base.specs.declared.Outcome.TheVariants.{Value, User, System}
use Rattle.poa_base.specs.declared.Profile.{Profile}
use Rattle.poa_base.specs.declared.Reply.{Reply}
use Rattle.poa_base.specs.declared.Reply.TheVariants as reply
use Rattle.cdr_core.specs.Fields.{with_fields}
use Rattle.ior_text.specs.Profile.{profile_of}
use Rattle.giop_answer.specs.declared.kind.TheConstants as kind
use Rattle.giop_answer.specs.declared.status.TheConstants as status
use Rattle.giop_answer.specs.Exception.{exception_fields}
use Rattle.giop_answer.specs.Outgoing.{framed, fields_draft}

-- an argument or a result as a field
abbrev pub datum_field : Datum → Field
datum_field (Long n) = longlong n
datum_field (Ulong n) = ulong n
datum_field (Flag b) = boolean b
datum_field (Octets bytes) = octets bytes
datum_field (Text bytes) = text bytes

abbrev pub value_fields : Option Datum → List Field
value_fields None = []
value_fields (Some datum) = datum_field datum ∷ []

-- a reference without a type id and with one profile, that of this object
abbrev pub reference_fields : Profile → List Field
reference_fields profile = text [] ∷ ulong 1 ∷ ulong profile.tag ∷ octets profile.bytes ∷ []

-- where the response flags are exactly 1 no result and no user exception is told
abbrev pub hides_results : Head → Bool
hides_results head = head.flags == 1

-- the status of an outcome
abbrev pub outcome_status : Head → Outcome → ℕ
outcome_status head (Value value) = status.NO_EXCEPTION
outcome_status head (User id) = if hides_results head then status.NO_EXCEPTION else status.USER_EXCEPTION
outcome_status head (System raised) = status.SYSTEM_EXCEPTION

-- the body of an outcome
abbrev pub outcome_fields : Head → Outcome → List Field
outcome_fields head (Value value) = if hides_results head then [] else value_fields value
outcome_fields head (User id) = if hides_results head then [] else text id ∷ []
outcome_fields head (System raised) = exception_fields raised

-- the status of a Reply
abbrev pub reply_status : Head → Reply → ℕ
reply_status head (reply.Outcome outcome) = outcome_status head outcome
reply_status head (reply.Forward endpoint key) = status.LOCATION_FORWARD
reply_status head other = status.NEEDS_ADDRESSING_MODE

-- the status of a LocateReply
abbrev pub locate_status : Reply → ℕ
locate_status reply.Here = status.OBJECT_HERE
locate_status (reply.Forward endpoint key) = status.OBJECT_FORWARD
locate_status reply.Addressing = status.LOC_NEEDS_ADDRESSING_MODE
locate_status other = status.UNKNOWN_OBJECT

-- the body of a reply. The mode that is asked for is the one by key
abbrev pub reply_fields : Head → Reply → List Field
reply_fields head (reply.Outcome outcome) = outcome_fields head outcome
reply_fields head (reply.Forward endpoint key) = reference_fields (profile_of endpoint key)
reply_fields head reply.Addressing = ushort 0 ∷ []
reply_fields head other = []

-- the fields in front of the body of a Reply: the id, the status and no contexts, which stand first before 1.2
abbrev pub reply_opening : Head → ℕ → List Field
reply_opening head n = if head.minor == kind.MINOR then ulong head.id ∷ ulong n ∷ ulong 0 ∷ [] else ulong 0 ∷ ulong head.id ∷ ulong n ∷ []

-- a Reply's fields, whose body begins at 24
abbrev pub reply_draft : Head → Reply → Draft
reply_draft head answer = with_fields (reply_fields head answer) (fields_draft head.little (reply_opening head (reply_status head answer)))

-- a LocateReply's fields: the id, the status and a body that has the alignment of its fields alone
abbrev pub locate_draft : Head → Reply → Draft
locate_draft head answer =
    with_fields (reply_fields head answer) (fields_draft head.little (ulong head.id ∷ ulong (locate_status answer) ∷ []))

-- the fields in front of the body, and all that follows the header
abbrev pub opening_of : Head → Reply → List Field
opening_of head answer =
    if head.locate then ulong head.id ∷ ulong (locate_status answer) ∷ [] else reply_opening head (reply_status head answer)

abbrev pub content_draft : Head → Reply → Draft
content_draft head answer = if head.locate then locate_draft head answer else reply_draft head answer

-- the type of the message
abbrev pub reply_kind : Head → ℕ
reply_kind head = if head.locate then kind.LOCATE_REPLY else kind.REPLY

-- the bytes of a reply
abbrev pub reply_bytes : Head → Reply → List ℕ
reply_bytes head answer =
    if head.locate then framed head.minor kind.LOCATE_REPLY head.little (locate_draft head answer).bytes
    else framed head.minor kind.REPLY head.little (reply_draft head answer).bytes

-- a reply that answers such a message: a locate isn't answered by an outcome, a request isn't answered by where
-- the object is, and neither by the answer to an administrator's line
abbrev pub AnswersHead : Head → Reply → Type 0
AnswersHead head (reply.Outcome outcome) = IsFalse head.locate
AnswersHead head (reply.Forward endpoint key) = Unit {0}
AnswersHead head reply.Addressing = Unit {0}
AnswersHead head reply.Here = IsTrue head.locate
AnswersHead head reply.UnknownObject = IsTrue head.locate
AnswersHead head (reply.Answer number answer) = ⊥
