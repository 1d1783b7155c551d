-- The result that the body of a reply is, and how it is printed.
use Rattle.std.specs.Prelude.{◌≡◌, ℕ, ℤ, List, ◌++◌, Bool, true, false, Option, Some, None, codes, decimal}
use Rattle.std.specs.Fmt.{signed_decimal}
use Rattle.hex.specs.Hex.{encode_lower}
use Rattle.cdr_core.specs.Cursor.{Cursor, Reads}
use Rattle.cdr_core.specs.Field.{longlong, ulong, boolean, octets}
use Rattle.poa_base.specs.declared.Body.{Body}
use Rattle.poa_base.specs.declared.Datum.{Datum}
use Rattle.poa_base.specs.declared.Datum.TheVariants as datum
use Rattle.command_words.specs.declared.result_kind.ResultKind.{ResultKind}
use Rattle.command_words.specs.declared.result_kind.ResultKind.TheVariants.{Nothing, Long, Ulong, Flag, Octets}
use Rattle.giop_client.specs.Reply.{body_start}

-- what the body is, read as of this kind: one field of CDR at its front, or nothing
abbrev pub IsResult : ResultKind → Body → Option Datum → Type 0
IsResult Nothing body value = value ≡ None
IsResult Long body value =
    (n : ℤ) × ((after : Cursor) × Reads (longlong n) (body_start body) after) × (value ≡ Some (datum.Long n))
IsResult Ulong body value =
    (n : ℕ) × ((after : Cursor) × Reads (ulong n) (body_start body) after) × (value ≡ Some (datum.Ulong n))
IsResult Flag body value =
    (b : Bool) × ((after : Cursor) × Reads (boolean b) (body_start body) after) × (value ≡ Some (datum.Flag b))
IsResult Octets body value =
    (bytes : List ℕ) × ((after : Cursor) × Reads (octets bytes) (body_start body) after) × (value ≡ Some (datum.Octets bytes))

abbrev pub flag_text : Bool → List ℕ
flag_text true = codes "true"
flag_text false = codes "false"

-- the letter of the kind, and the value; octets in hexadecimal
abbrev pub datum_text : Datum → List ℕ
datum_text (datum.Long n) = codes "i:" ++ signed_decimal n
datum_text (datum.Ulong n) = codes "u:" ++ decimal n
datum_text (datum.Flag b) = codes "b:" ++ flag_text b
datum_text (datum.Octets bytes) = codes "o:" ++ encode_lower bytes
datum_text (datum.Text bytes) = codes "s:" ++ bytes

abbrev pub result_text : Option Datum → List ℕ
result_text None = codes "result"
result_text (Some value) = codes "result " ++ datum_text value
