-- Why no field of a kind can be read at a cursor.
use Rattle.std.specs.Prelude.{◌≡◌, ◌≢◌, ℕ, ◌-◌, ◌<◌, ◌≤◌, length, slice_index, ◌⊎◌}
use Rattle.cdr_core.specs.declared.fault.CdrFault.{CdrFault}
use Rattle.cdr_core.specs.declared.fault.CdrFault.TheVariants.{Short, BadBool, NoNul}
use Rattle.cdr_core.specs.Kind.{Kind, Octet, UShort, ULong, LongLong, Boolean, Text, Octets}
use Rattle.cdr_core.specs.Field.{octet, ulong}
use Rattle.cdr_core.specs.Spelling.{gap}
use Rattle.cdr_core.specs.Cursor.{Cursor, Reads, left}

-- a number of this size, which is its alignment too, isn't whole
abbrev pub IsShort : ℕ → Cursor → CdrFault → Type 0
IsShort size c fault = (left size c < size) × (fault ≡ Short size (left size c))

-- the padding up to a multiple of the unit isn't whole
abbrev pub LacksPadding : ℕ → Cursor → CdrFault → Type 0
LacksPadding unit c fault = (length c.rest < gap unit c.place) × (fault ≡ Short (gap unit c.place) (length c.rest))

-- an octet stands there that is neither 0 nor 1
pub record IsNoBool (c : Cursor) (fault : CdrFault) : Type 0 where
  pub value : ℕ
  pub after : Cursor
  pub read : Reads (octet value) c after
  pub above : 1 < value
  pub told : fault ≡ BadBool value

-- a length stands there, and fewer bytes than that are left behind it
pub record LacksBytes (c : Cursor) (fault : CdrFault) : Type 0 where
  pub len : ℕ
  pub after : Cursor
  pub counted : Reads (ulong len) c after
  pub fewer : length after.rest < len
  pub told : fault ≡ Short len (length after.rest)

-- a length stands there and as many bytes behind it, of which the last isn't NUL
pub record LacksNul (c : Cursor) (fault : CdrFault) : Type 0 where
  pub len : ℕ
  pub after : Cursor
  pub counted : Reads (ulong len) c after
  pub some : 0 < len
  pub whole : len ≤ length after.rest
  pub last : slice_index after.rest (len - 1) ≢ 0
  pub told : fault ≡ NoNul

-- no field of the kind stands there, and the fault says why
abbrev pub Refuses : Kind → Cursor → CdrFault → Type 0
Refuses Octet c fault = IsShort 1 c fault
Refuses UShort c fault = IsShort 2 c fault
Refuses ULong c fault = IsShort 4 c fault
Refuses LongLong c fault = IsShort 8 c fault
Refuses Boolean c fault = IsShort 1 c fault ⊎ IsNoBool c fault
Refuses Text c fault = IsShort 4 c fault ⊎ LacksBytes c fault ⊎ LacksNul c fault
Refuses Octets c fault = IsShort 4 c fault ⊎ LacksBytes c fault
