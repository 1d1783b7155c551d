-- Fields that are read one behind the other.
use Rattle.std.specs.Prelude.{◌≡◌, ℕ, List, [], ◌∷◌, drop}
use Rattle.cdr_core.specs.Field.{Field}
use Rattle.cdr_core.specs.Cursor.{Cursor, Reads}
use Rattle.giop_frame.specs.Part.{is_little}
use Rattle.giop_answer.specs.declared.kind.TheConstants.{HEADER}

-- the fields are spelled one behind the other from the first cursor on, and the second stands behind them
abbrev pub ReadsAll : List Field → Cursor → Cursor → Type 0
ReadsAll [] before after = after ≡ before
ReadsAll (field ∷ fields) before after = (behind : Cursor) × (Reads field before behind × ReadsAll fields behind after)

-- where the fields of a message begin, behind its header, in its byte order
abbrev pub fields_start : List ℕ → Cursor
fields_start bytes = record { little = is_little bytes; place = HEADER; rest = drop HEADER bytes }
