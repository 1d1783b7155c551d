-- The argument of an operation: one field at the front of a request's body, in CDR (CORBA 3.3 Part 2, 9.3).
-- Bytes behind it are ignored.
use Rattle.std.specs.Prelude.{ℕ, zero, suc, ℤ, ◌%◌, ◌==◌, nat_lt, if◌then◌else◌, Bool, List, [], length, take, drop, slice_index, Option, Some, None}
use Rattle.std.specs.Option.{option_map}
use Rattle.std.specs.Int.{Width, w32, w64, byte_len, from_le_bytes, from_be_bytes, cast_signed}
use Rattle.cdr_core.specs.Spelling.{gap}
use Rattle.cdr_core.specs.Cursor.{Cursor}
use Rattle.poa_base.specs.declared.Body.{Body}

-- the front of a body, at its place in the message
abbrev pub start_of : Body → Cursor
start_of body = record { little = body.little; place = body.base; rest = body.bytes }

-- the same front for a reader: no alignment is above 8, so the place counts by its remainder alone
abbrev pub reading_start : Body → Cursor
reading_start body = record { little = body.little; place = body.base % 8; rest = body.bytes }

-- the bytes behind the padding up to a multiple of the unit
abbrev pub aligned : ℕ → Body → List ℕ
aligned unit body = drop (gap unit body.base) body.bytes

-- the number that these bytes are in the byte order of the message
abbrev pub number_of : Bool → Width → List ℕ → ℕ
number_of little w bytes = if little then from_le_bytes w bytes else from_be_bytes w bytes

-- the unsigned number of this width, where all its bytes are there
abbrev pub unsigned_of : Width → Body → Option ℕ
unsigned_of w body =
    if nat_lt (length (aligned (byte_len w) body)) (byte_len w) then None
    else Some (number_of body.little w (take (byte_len w) (aligned (byte_len w) body)))

-- a long long
abbrev pub longlong_of : Body → Option ℤ
longlong_of body = option_map (cast_signed w64) (unsigned_of w64 body)

-- an unsigned long
abbrev pub ulong_of : Body → Option ℕ
ulong_of body = unsigned_of w32 body

-- what stands behind an unsigned long
abbrev pub behind_ulong : Body → List ℕ
behind_ulong body = drop 4 (aligned 4 body)

-- as many bytes as a count says, where they are there
abbrev pub counted_of : Option ℕ → List ℕ → Option (List ℕ)
counted_of None behind = None
counted_of (Some n) behind = if nat_lt (length behind) n then None else Some (take n behind)

-- a sequence of octets
abbrev pub octets_of : Body → Option (List ℕ)
octets_of body = counted_of (ulong_of body) (behind_ulong body)

-- the bytes in front of the NUL that ends a string; a string of no bytes at all is empty
abbrev pub front_of : ℕ → List ℕ → Option (List ℕ)
front_of zero bytes = Some []
front_of (suc n) bytes = if slice_index bytes n == 0 then Some (take n bytes) else None

-- the bytes of a string that were counted with their NUL
abbrev pub ended_of : Option (List ℕ) → Option (List ℕ)
ended_of None = None
ended_of (Some bytes) = front_of (length bytes) bytes

-- a string
abbrev pub text_of : Body → Option (List ℕ)
text_of body = ended_of (octets_of body)
