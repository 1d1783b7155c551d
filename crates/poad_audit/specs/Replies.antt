-- A reply that is taken for writing, in words.
use Rattle.std.specs.Prelude.{ℕ, Bool, true, false, List, [], ◌∷◌, ◌++◌, codes, decimal, Option, Some, None}
use Rattle.std.specs.Fmt.{signed_decimal}
use Rattle.poa_base.specs.declared.Datum.{Datum}
use Rattle.poa_base.specs.declared.Datum.TheVariants as datum
use Rattle.poa_base.specs.declared.Outcome.{Outcome}
use Rattle.poa_base.specs.declared.Outcome.TheVariants as outcome
use Rattle.poa_base.specs.declared.Reply.{Reply}
use Rattle.poa_base.specs.declared.Reply.TheVariants as reply
use Rattle.text_words.specs.Token.{octets, tails}
use Rattle.poad_files.specs.Printed.{printed}
use Rattle.poad_audit.specs.Verdicts.{answered_text, exception_text, forwarded_text}

abbrev pub flag_text : Bool → List ℕ
flag_text true = codes " b:true"
flag_text false = codes " b:false"

-- the letter of the result's kind, and the result; octets in hexadecimal
abbrev pub datum_text : Datum → List ℕ
datum_text (datum.Long n) = codes " i:" ++ signed_decimal n
datum_text (datum.Ulong n) = codes " u:" ++ decimal n
datum_text (datum.Flag b) = flag_text b
datum_text (datum.Octets bytes) = tails (octets (codes "o:") bytes ∷ [])
datum_text (datum.Text bytes) = codes " s:" ++ printed bytes

abbrev pub value_text : Option Datum → List ℕ
value_text None = codes "NO_EXCEPTION"
value_text (Some d) = codes "NO_EXCEPTION" ++ datum_text d

-- how the operation ended: a result, a user exception by its repository id, or a system exception
abbrev pub outcome_text : Outcome → List ℕ
outcome_text (outcome.Value value) = value_text value
outcome_text (outcome.User id) = codes "USER_EXCEPTION " ++ printed id
outcome_text (outcome.System e) = exception_text e

abbrev pub reply_text : Reply → List ℕ
reply_text (reply.Outcome ended) = outcome_text ended
reply_text (reply.Forward endpoint key) = forwarded_text endpoint
reply_text reply.Addressing = codes "asked for the whole reference"
reply_text reply.Here = codes "answered that the object is here"
reply_text reply.UnknownObject = codes "answered that the object is unknown"
reply_text (reply.Answer number answer) = answered_text answer

abbrev pub collected_text : Reply → List ℕ
collected_text r = codes "its reply was taken for writing: " ++ reply_text r
