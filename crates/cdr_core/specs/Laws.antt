-- Laws of the spelling, on which 'exactly where' stands in the crates above.
use Rattle.std.specs.Prelude.{◌≡◌, ℕ, ◌+◌, ◌%◌, Bool, List, ◌++◌, length}
use Rattle.cdr_core.specs.declared.fault.CdrFault.{CdrFault}
use Rattle.cdr_core.specs.Kind.{Kind}
use Rattle.cdr_core.specs.Field.{Field, kind_of, Fits}
use Rattle.cdr_core.specs.Spelling.{Spells, written}
use Rattle.cdr_core.specs.Cursor.{Cursor, Reads, Skips}
use Rattle.cdr_core.specs.Draft.{Draft}
use Rattle.cdr_core.specs.Fields.{with_fields}
use Rattle.cdr_core.specs.Refusal.{Refuses, LacksPadding}
use Rattle.cdr_core.specs.Part.{IsSlice, LiesAt, StandsIn}

-- a place has at most one field of a kind, and one end of it
abbrev pub OneReading : Type 0
OneReading =
    (f g : Field) (c a b : Cursor) → kind_of f ≡ kind_of g → Reads f c a → Reads g c b → (f ≡ g) × (a ≡ b)

-- where a kind is refused no field of it stands
abbrev pub NoneWhereRefused : Type 0
NoneWhereRefused =
    (f : Field) (c a : Cursor) (fault : CdrFault) → Refuses (kind_of f) c fault → Reads f c a → ⊥

-- a kind is refused with one fault
abbrev pub OneRefusal : Type 0
OneRefusal = (kind : Kind) (c : Cursor) (d e : CdrFault) → Refuses kind c d → Refuses kind c e → d ≡ e

-- a skip has one end
abbrev pub OneSkip : Type 0
OneSkip = (unit : ℕ) (c a b : Cursor) → Skips unit c a → Skips unit c b → a ≡ b

-- where padding lacks none is passed
abbrev pub NoSkipWhereLacking : Type 0
NoSkipWhereLacking = (unit : ℕ) (c a : Cursor) (fault : CdrFault) → LacksPadding unit c fault → Skips unit c a → ⊥

-- what is written of a field spells it
abbrev pub WrittenSpells : Type 0
WrittenSpells = (little : Bool) (place : ℕ) (f : Field) → Fits f → Spells little place f (written little place f)

-- what is written of a field is read back as that field, whatever follows
abbrev pub WrittenReadsBack : Type 0
WrittenReadsBack =
    (f : Field) (c : Cursor) (more : List ℕ) → Fits f → c.rest ≡ written c.little c.place f ++ more
    → Reads f c (record c { place = c.place + length (written c.little c.place f); rest = more })

-- what stands in a message stands in it behind each field that is read
abbrev pub StandsBehind : Type 0
StandsBehind = (bytes : List ℕ) (field : Field) (c after : Cursor) → StandsIn bytes c → Reads field c after → StandsIn bytes after

-- and what lies at a place there is the slice of the message at that place
abbrev pub LiesInMessage : Type 0
LiesInMessage = (bytes part : List ℕ) (place : ℕ) (c : Cursor) → StandsIn bytes c → LiesAt place part c → IsSlice place part bytes

-- a slice of a slice, as of an encapsulation in a message
abbrev pub SliceOfSlice : Type 0
SliceOfSlice = (bytes inner part : List ℕ) (place at : ℕ) → IsSlice place inner bytes → IsSlice at part inner
    → IsSlice (place + at) part bytes

-- one draft is the other behind these bytes
pub record IsBehind (front : List ℕ) (d e : Draft) : Type 0 where
  pub order : d.little ≡ e.little
  pub bytes : d.bytes ≡ front ++ e.bytes
  pub aligned : (d.base + length d.bytes) % 8 ≡ (e.base + length e.bytes) % 8

-- and stays so by the same fields: what is written behind other bytes is what is written behind none
abbrev pub WrittenBehind : Type 0
WrittenBehind = (front : List ℕ) (fields : List Field) (d e : Draft) → IsBehind front d e
    → IsBehind front (with_fields fields d) (with_fields fields e)
