-- What a part says of itself. A part is a message of GIOP 1.0, 1.1 or 1.2 as it stands in the stream, whole or a
-- piece of a fragmented one: CORBA 3.3 Part 2, 9.4.
use Rattle.std.specs.Prelude.{ℕ, ◌+◌, Bool, List, [], ◌∷◌, ◌==◌, ◌&&◌, ◌||◌, not, if◌then◌else◌, bit_and, slice_index}
use Rattle.std.specs.Int.{w32, from_le_bytes, from_be_bytes}
use Rattle.giop_frame.specs.declared.header.Header.{Header}
use Rattle.giop_frame.specs.declared.header.TheConstants.{REQUEST, LOCATE_REQUEST, FRAGMENT, HEADER, HEADER_AND_ID, NEWEST_MINOR}

-- the ulong at a place: CORBA 3.3 Part 2, 9.3.1
unfoldable pub ulong_at : Bool → List ℕ → ℕ → ℕ
ulong_at little part place =
    let bytes = slice_index part place ∷ slice_index part (place + 1) ∷ slice_index part (place + 2) ∷ slice_index part (place + 3) ∷ [] in
    if little then from_le_bytes w32 bytes else from_be_bytes w32 bytes

-- the minor version
abbrev pub minor_of : List ℕ → ℕ
minor_of part = slice_index part 5

-- bit 0 of the flags: the byte order is little-endian
unfoldable pub is_little : List ℕ → Bool
is_little part = bit_and (slice_index part 6) 1 == 1

-- the header: CORBA 3.3 Part 2, 9.4.1. Version 1.0 has a byte order in place of flags, and nothing else there
unfoldable pub header_of : List ℕ → Header
header_of part = record {
  minor = minor_of part;
  little = is_little part;
  more = not (minor_of part == 0) && bit_and (slice_index part 6) 2 == 2;
  kind = slice_index part 7;
  size = ulong_at (is_little part) part 8;
}

-- the request id, which stands right behind the header of each part that has one
unfoldable pub id_of : List ℕ → ℕ
id_of part = ulong_at (is_little part) part HEADER

-- the first part of a fragmented message: fragments follow a Request or a LocateRequest of version 1.2
abbrev pub opens : Header → Bool
opens h = h.more && (h.minor == NEWEST_MINOR && (h.kind == REQUEST || h.kind == LOCATE_REQUEST))

-- a Fragment: CORBA 3.3 Part 2, 9.4.9
abbrev pub continues : Header → Bool
continues h = h.kind == FRAGMENT

-- how far a part has to be seen until its id is known, where its id matters
abbrev pub id_end : Header → ℕ
id_end h = if opens h || continues h then HEADER_AND_ID else HEADER
