-- The rules that make a place of a stream bad, and what can be said of the part at the front of a text.
use Rattle.std.specs.Prelude.{ℕ, ◌+◌, ◌-◌, Bool, true, false, List, ◌≡◌, ◌==◌, ◌&&◌, ◌||◌, not, if◌then◌else◌, nat_lt, Option, Some, None, length, slice_index, take, bytes_eq, codes, is_some}
use Rattle.std.specs.Option.{option_or}
use Rattle.giop_frame.specs.declared.header.Header.{Header}
use Rattle.giop_frame.specs.declared.header.TheConstants.{FRAGMENT, HEADER, NEWEST_MINOR}
use Rattle.giop_frame.specs.declared.rules.TheConstants.{OPEN_LIMIT}
use Rattle.giop_frame.specs.declared.rules.Look.{Look}
use Rattle.giop_frame.specs.declared.rules.Look.TheVariants.{Unfinished, Whole, Bad}
use Rattle.giop_frame.specs.declared.why.Why.{Why}
use Rattle.giop_frame.specs.declared.why.Why.TheVariants.{BadMagic, BadVersion, BadType, TooLong, StrayFragment, BadFragment}
use Rattle.giop_frame.specs.Part.{header_of, is_little, minor_of, id_of, opens, continues, id_end}
use Rattle.giop_frame.specs.Open.{Open, Opens, find_open, open_bytes, nothing_open}

-- no version has a message of this type: version 1.0 has no Fragment
abbrev pub is_bad_type : ℕ → ℕ → Bool
is_bad_type minor kind = nat_lt FRAGMENT kind || (minor == 0 && kind == FRAGMENT)

-- no header of GIOP 1.0, 1.1 or 1.2
abbrev pub foreign_fault : List ℕ → Option Why
foreign_fault text =
    if not (bytes_eq (take 4 text) (codes "GIOP")) then Some BadMagic
    else if not (slice_index text 4 == 1) || nat_lt NEWEST_MINOR (minor_of text) then Some BadVersion
    else if is_bad_type (minor_of text) (slice_index text 7) then Some BadType
    else None

-- a part of this header is too long, whatever its id is: by itself, or by what it opens
abbrev pub is_too_long : ℕ → Opens → Header → Bool
is_too_long limit pending h = nat_lt limit h.size || (opens h && nat_lt OPEN_LIMIT (open_bytes pending + HEADER + h.size))

-- a Fragment that no id can save: it is of version 1.1, whose fragments have none; it is too short for one; or nothing is open
abbrev pub is_stray : Opens → Header → Bool
is_stray pending h = continues h && (not (h.minor == NEWEST_MINOR) || (nat_lt h.size 4 || nothing_open pending))

-- bit 1 on a message that has no fragments here, as one of version 1.1, or on a first part that is too short for its id
abbrev pub is_bad_start : Header → Bool
is_bad_start h = h.more && not (continues h) && (not (opens h) || nat_lt h.size 4)

-- the first rule that a header of GIOP breaks, whatever id follows it
abbrev pub size_fault : ℕ → Opens → Header → Option Why
size_fault limit pending h =
    if is_too_long limit pending h then Some TooLong
    else if is_stray pending h then Some StrayFragment
    else if is_bad_start h then Some BadFragment
    else None

-- the first rule that a header breaks
abbrev pub header_fault : ℕ → Opens → List ℕ → Option Why
header_fault limit pending text = option_or (foreign_fault text) (size_fault limit pending (header_of text))

-- two byte orders differ
abbrev pub differ : Bool → Bool → Bool
differ true b = not b
differ false b = b

-- the first rule that a Fragment breaks: by the sum of the open messages, the joined size, its id, its byte order
abbrev pub fragment_fault : ℕ → Opens → Header → Option Open → Option Why
fragment_fault limit pending h None =
    if nat_lt OPEN_LIMIT (open_bytes pending + (h.size - 4)) then Some TooLong else Some StrayFragment
fragment_fault limit pending h (Some o) =
    if nat_lt OPEN_LIMIT (open_bytes pending + (h.size - 4)) || nat_lt limit (length o.bytes - HEADER + (h.size - 4)) then Some TooLong
    else if differ h.little (is_little o.bytes) then Some BadFragment
    else None

-- the first rule that a part breaks by its id
abbrev pub id_fault : ℕ → Opens → List ℕ → Option Why
id_fault limit pending text =
    let h = header_of text in
    let found = find_open (id_of text) pending in
    if continues h then fragment_fault limit pending h found
    else if opens h && is_some found then Some BadFragment
    else None

-- nothing can be said before so many bytes are there
abbrev pub wait_for : ℕ → List ℕ → Look → Look
wait_for n text then_look = if nat_lt (length text) n then Unfinished else then_look

-- bad by this rule, where there is one
abbrev pub unless : Option Why → Look → Look
unless (Some why) then_look = Bad why
unless None then_look = then_look

-- a part of this header that breaks no rule
abbrev pub look_whole : Header → List ℕ → Look
look_whole h text = wait_for (HEADER + h.size) text (Whole (HEADER + h.size))

-- what a text shows of its first part, after the parts that left these messages open
abbrev pub look_at : ℕ → Opens → List ℕ → Look
look_at limit pending text =
    let h = header_of text in
    wait_for HEADER text (unless (header_fault limit pending text)
    (wait_for (id_end h) text (unless (id_fault limit pending text)
    (look_whole h text))))

-- a whole part that is good under some limit
abbrev pub IsGood : Opens → List ℕ → Type 0
IsGood pending part = (limit : ℕ) × (look_at limit pending part ≡ Whole (length part))
