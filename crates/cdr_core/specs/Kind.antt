-- The kinds of field that CDR carries here: the primitive types of CORBA 3.3 Part 2, section 9.3.1, and of
-- section 9.3.2 the string and the sequence of octets.
use Rattle.std.specs.Prelude.{ℕ}

pub data Kind : Type 0 where
  Octet : Kind
  UShort : Kind
  ULong : Kind
  LongLong : Kind
  Boolean : Kind
  Text : Kind
  Octets : Kind

-- a field begins at a multiple of this, counted from the start of the message or encapsulation;
-- a string and a sequence begin with their length, a ulong
abbrev pub unit_of : Kind → ℕ
unit_of Octet = 1
unit_of UShort = 2
unit_of ULong = 4
unit_of LongLong = 8
unit_of Boolean = 1
unit_of Text = 4
unit_of Octets = 4
