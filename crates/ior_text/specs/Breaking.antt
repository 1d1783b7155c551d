-- Where reading field by field comes to an end.
use Rattle.std.specs.Prelude.{◌≡◌, ℕ, ◌⊎◌}
use Rattle.cdr_core.specs.declared.CdrFault.{CdrFault}
use Rattle.cdr_core.specs.declared.CdrFault.TheVariants.{WantMemory}
use Rattle.cdr_core.specs.Kind.{Kind}
use Rattle.cdr_core.specs.Field.{Field, kind_of}
use Rattle.cdr_core.specs.Cursor.{Cursor, Reads}

-- no field of the kind stands at the cursor
abbrev pub Unreadable : Kind → Cursor → Type 0
Unreadable kind c = (field : Field) (after : Cursor) → kind_of field ≡ kind → Reads field c after → ⊥

-- a field of the kind is due and can't be read; it begins, with its padding, at this place
pub record Breaks (kind : Kind) (c : Cursor) (at : ℕ) : Type 0 where
  pub unreadable : Unreadable kind c
  pub begins : at ≡ c.place

-- a refusal: memory ran out, or reading breaks so at the place where the cursor is left
abbrev pub StopsBy : (ℕ → Type 0) → Cursor → CdrFault → Type 0
StopsBy Breaking after fault = (fault ≡ WantMemory) ⊎ Breaking after.place
