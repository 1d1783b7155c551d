-- A reference in an encapsulation (CORBA 3.3 Part 2, 9.3.3 and 7.6.2). Bytes behind the reference are ignored.
use Rattle.std.specs.Prelude.{◌≡◌, ℕ, List, Some, None, ◌⊎◌}
use Rattle.cdr_core.specs.Cursor.{Cursor}
use Rattle.poa_base.specs.declared.Ior.{Ior}
use Rattle.ior_text.specs.Encapsulated.{inside}
use Rattle.ior_text.specs.ReferenceFields.{ReadsIor, IorBreaks}
use Rattle.ior_text.specs.declared.fault.IorFault.{IorFault}
use Rattle.ior_text.specs.declared.fault.IorFault.TheVariants.{Malformed, WantMemory}

-- the bytes are an encapsulation of the reference
pub record Encloses (bytes : List ℕ) (ior : Ior) : Type 0 where
  pub start : Cursor
  pub after : Cursor
  pub opened : inside bytes ≡ Some start
  pub read : ReadsIor ior start after

-- the byte order can be read, and not all fields
pub record InsideBreaks (bytes : List ℕ) (at : ℕ) : Type 0 where
  pub start : Cursor
  pub opened : inside bytes ≡ Some start
  pub breaks : IorBreaks start at

-- the bytes are no encapsulation of a reference, and the first unreadable field begins at this place; the
-- byte order is a field like others
abbrev pub Spoils : List ℕ → ℕ → Type 0
Spoils bytes at = ((inside bytes ≡ None) × (at ≡ 0)) ⊎ InsideBreaks bytes at

-- a fault of reading: memory ran out, or there is a place where reading breaks so
abbrev pub FaultBy : (ℕ → Type 0) → IorFault → Type 0
FaultBy Breaking fault = (fault ≡ WantMemory) ⊎ ((at : ℕ) × (fault ≡ Malformed at) × Breaking at)
